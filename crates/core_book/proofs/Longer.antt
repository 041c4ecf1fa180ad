-- Registers that are read later change nothing of how far a row has come.
use Rattle.std.proofs.Common.{◌≡◌, ℕ, zero, suc, ◌+◌, ◌≤◌, ℤ, Option, Some, None, List, ◌++◌, length, get_or, drop, take, refl, sym, ap, ◌∙◌, arith}
use Rattle.std.specs.Prelude.{slice_get}
use Rattle.std.proofs.lemmas.List.{length-append}
use Rattle.core_rows.specs.Progress.{Progress}
use Rattle.core_rows.proofs.Steps.{own_words}
use Rattle.core_value.specs.Taken.{taken, flagged}
use Rattle.core_book.specs.declared.book.Book.{Book}
use Rattle.core_book.specs.declared.book.How.{How}
use Rattle.core_book.specs.declared.book.Statement.{Statement}
use Rattle.core_book.specs.declared.row.Row.{Row}
use Rattle.core_book.specs.Hows.{value_by, reads_by, kept_in, how_reads, nowhere, stepped, progress_at}
use Rattle.core_book.specs.Caught.{IsCaught}

value_same : (book : Book) (from : ℕ) (s : Option Statement) (locals registers more : List ℤ) (used : ℕ) → used + reads_by s ≤ length registers
    → value_by book from s locals (registers ++ more) used ≡ value_by book from s locals registers used
value_same book from None locals registers more used l = refl
value_same book from (Some s) locals registers more used l =
    ap (λ (own : List ℤ). (taken (flagged book.written.items) locals s.value own (drop from book.others.items)).value) (own_words used s.reads registers more l)

module _ (book : Book) (hows : List How) (registers more : List ℤ) where
  pub progress_same : (first n : ℕ) → (progress_at book hows registers first n).used ≤ length registers → progress_at book hows (registers ++ more) first n ≡ progress_at book hows registers first n
  progress_same first zero l = refl
  progress_same first (suc n) l =
      let how : How = get_or hows (first + n) nowhere in
      let p : Progress = progress_at book hows registers first n in
      let e = progress_same first n (omega arith) in
      let v = value_same book how.from (slice_get book.statements.items how.statement) p.locals registers more p.used l in
      ap (stepped book (registers ++ more) how) e
      ∙ (λ i. record { locals = kept_in how.keeps p.locals (v i); used = p.used + how_reads book how })

  pub caught_longer : (row : Row) → IsCaught book hows registers row → IsCaught book hows (registers ++ more) row
  caught_longer row c =
      let u = ap (λ (p : Progress). p.used) c.is in
      let w = c.within in
      record {
        is = c.is ∙ sym (progress_same row.first row.count (omega arith));
        within = let n = length-append registers more in omega arith;
      }
