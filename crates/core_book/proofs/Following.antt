-- The book's instances are those of a row of a work.
use Rattle.std.proofs.Common.{◌≡◌, ℕ, zero, suc, ◌+◌, ◌<◌, ◌≤◌, ℤ, List, [], ◌∷◌, ◌++◌, length, get_or, take, Some, refl, sym, ap, ◌∙◌, arith}
use Rattle.std.specs.Prelude.{slice_get}
use Rattle.std.proofs.lemmas.List.{take_all}
use Rattle.core_cells.proofs.Places.{take_next, at_some}
use Rattle.core_rows.specs.Deeds.{Deed}
use Rattle.core_rows.specs.Progress.{Progress, begun_row, advanced, caught_up}
use Rattle.core_book.specs.declared.book.Book.{Book}
use Rattle.core_book.specs.declared.book.How.{How}
use Rattle.core_book.specs.Hows.{nowhere, stepped, how_at, progress_at}
use Rattle.core_book.specs.Follows.{Does, DoRow}

caught_push : (registers : List ℤ) (ds : List Deed) (d : Deed) (p : Progress) → caught_up registers (ds ++ d ∷ []) p ≡ advanced registers d (caught_up registers ds p)
caught_push registers [] d p = refl
caught_push registers (e ∷ ds) d p = caught_push registers ds d (advanced registers e p)

one_more : (book : Book) (how : How) (d : Deed) (registers : List ℤ) (p : Progress) → Does book how d → stepped book registers how p ≡ advanced registers d p
one_more book how d registers p does =
    let v = does.value p.locals registers p.used in
    let long = does.reads in
    (λ i. record { locals = does.keeps p.locals (v i) i; used = p.used + long i })

pub follows : (book : Book) (hows : List How) (first : ℕ) (ds : List Deed) (registers : List ℤ) → DoRow book hows first ds → (n : ℕ) → n ≤ length ds
    → progress_at book hows registers first n ≡ caught_up registers (take n ds) (begun_row 16)
follows book hows first ds registers does zero l = refl
follows book hows first ds registers does (suc n) l =
    let d = at_some ds n (omega arith) in
    ap (stepped book registers (get_or hows (first + n) nowhere)) (follows book hows first ds registers does n (omega arith))
    ∙ (one_more book (get_or hows (first + n) nowhere) d.0 registers (caught_up registers (take n ds) (begun_row 16)) (does n d.0 d.1)
    ∙ (sym (caught_push registers (take n ds) d.0 (begun_row 16))
    ∙ ap (λ (l : List Deed). caught_up registers l (begun_row 16)) (sym (take_next ds n d.0 d.1))))
