-- A row that is stepped from instance to instance.
use Rattle.std.proofs.Common.{◌≡◌, ℕ, zero, suc, ◌+◌, ◌-◌, ◌<◌, ◌≤◌, ℤ, List, length, get_or, refl, sym, ap, ◌∙◌, ⊎_elim, arith}
use Rattle.std.proofs.lemmas.Bool.{cases_lt, cases_eq}
use Rattle.core_rows.specs.Progress.{Progress}
use Rattle.core_book.specs.declared.book.Book.{Book}
use Rattle.core_book.specs.declared.book.How.{How}
use Rattle.core_book.specs.declared.row.Row.{Row}
use Rattle.core_book.specs.Hows.{nowhere, stepped, how_reads, how_value, how_at, progress_at, progress_before, worked}
use Rattle.core_book.specs.Caught.{progress_of, IsCaught}

-- the row has come so far
pub record Goes (book : Book) (hows : List How) (registers : List ℤ) (first count : ℕ) (row : Row) : Type 0 where
  pub first_is : row.first ≡ first
  pub count_is : row.count ≡ count
  pub is : progress_of row ≡ progress_at book hows registers first count

module _ (book : Book) (hows : List How) (registers : List ℤ) where
  abbrev used_at : ℕ → ℕ → ℕ
  used_at first n = (progress_at book hows registers first n).used

  used_rises : (first n m : ℕ) → n ≤ m → used_at first n ≤ used_at first m
  used_rises first n zero l = let e : n ≡ 0 = omega arith in let h = ap (used_at first) e in omega arith
  used_rises first n (suc m) l = ⊎_elim
      (λ (e : n ≡ suc m). let h = ap (used_at first) e in omega arith)
      (λ (ne : n ≡ suc m → ⊥). let h = used_rises first n m (omega arith) in omega arith)
      (cases_eq n (suc m))

  pub starts : (first : ℕ) (row : Row) → row.first ≡ first → IsCaught book hows registers row → Goes book hows registers first row.count row
  starts first row e c = record { first_is = e; count_is = refl; is = c.is ∙ ap (λ (f : ℕ). progress_at book hows registers f row.count) e }

  -- the words that the next instance takes stand inside the registers
  pub fits : (first place before : ℕ) (row : Row) → Goes book hows registers first place row → place < before → used_at first before ≤ length registers
      → row.used + how_reads book (get_or hows (first + place) nowhere) ≤ length registers
  fits first place before row g l few = let e = ap (λ (p : Progress). p.used) g.is in let h = used_rises first (suc place) before (omega arith) in omega arith

  pub goes_on : (first place : ℕ) (row row' : Row) → Goes book hows registers first place row → row'.first ≡ row.first → row'.count ≡ row.count + 1
      → progress_of row' ≡ stepped book registers (get_or hows (first + place) nowhere) (progress_of row) → Goes book hows registers first (place + 1) row'
  goes_on first place row row' g f n is = let c = g.count_is in let e : suc place ≡ place + 1 = omega arith in record {
    first_is = f ∙ g.first_is;
    count_is = omega arith;
    is = is ∙ (ap (stepped book registers (get_or hows (first + place) nowhere)) g.is ∙ ap (progress_at book hows registers first) e);
  }

  pub ends : (first place before : ℕ) (row : Row) → Goes book hows registers first place row → (place < before → ⊥) → place ≤ before → Goes book hows registers first before row
  ends first place before row g done le = let e : place ≡ before = ⊎_elim (λ (l : place < before). absurd (done l)) (λ (l : before ≤ place). omega arith) (cases_lt place before) in record {
    first_is = g.first_is;
    count_is = g.count_is ∙ e;
    is = g.is ∙ ap (progress_at book hows registers first) e;
  }

  pub caught : (first before : ℕ) (row : Row) → Goes book hows registers first before row → used_at first before ≤ length registers → IsCaught book hows registers row
  caught first before row g few = record {
    is = g.is ∙ (λ i. progress_at book hows registers (sym g.first_is i) (sym g.count_is i));
    within = let e = ap (λ (p : Progress). p.used) g.is in omega arith;
  }

  pub value_is : (first before : ℕ) (how : How) (row : Row) → Goes book hows registers first before row
      → how_value book how row.locals registers row.used ≡ (let p : Progress = progress_at book hows registers first before in how_value book how p.locals registers p.used)
  value_is first before how row g = ap (λ (p : Progress). how_value book how p.locals registers p.used) g.is
