-- The values of a row's instances one after another.
use Rattle.std.proofs.Common.{◌≡◌, ℕ, zero, suc, ◌+◌, ◌≤◌, ℤ, List, [], ◌∷◌, ◌++◌, length, take, drop, refl, sym, ap, ◌∙◌, arith}
use Rattle.core_cells.proofs.Places.{take_left}
use Rattle.core_rows.specs.Deeds.{Deed}
use Rattle.core_rows.specs.Locals.{kept_by, zeros}
use Rattle.core_rows.specs.Replay.{replayed}
use Rattle.core_rows.specs.Progress.{Progress, next_value, advanced, caught_up, reads_in, StaysTaken, ComesStepByStep}

drop_none : {A : Type 0} (k : ℕ) → let none : List A = [] in drop k none ≡ none
drop_none zero = refl
drop_none (suc k) = refl

pub drop_twice : {A : Type 0} (m n : ℕ) (l : List A) → drop (m + n) l ≡ drop n (drop m l)
drop_twice zero n l = let e : 0 + n ≡ n = omega arith in ap (λ (k : ℕ). drop k l) e
drop_twice (suc m) n [] = drop_none (suc m + n) ∙ sym (drop_none n)
drop_twice (suc m) n (x ∷ l) = let e : suc m + n ≡ suc (m + n) = omega arith in ap (λ (k : ℕ). drop k (x ∷ l)) e ∙ drop_twice m n l

replayed_after : (earlier : List Deed) (d : Deed) (registers : List ℤ) (p : Progress)
    → replayed earlier d p.locals (drop p.used registers) ≡ next_value registers d (caught_up registers earlier p)
replayed_after [] d registers p = refl
replayed_after (e ∷ more) d registers p =
    let n : ℕ = length e.reads in
    ap (replayed more d (kept_by e.effect p.locals (next_value registers e p))) (sym (drop_twice p.used n registers))
    ∙ replayed_after more d registers (advanced registers e p)

pub steps : (n : ℕ) (earlier : List Deed) (d : Deed) (registers : List ℤ) → ComesStepByStep n earlier d registers
steps n earlier d registers = replayed_after earlier d registers (record { locals = zeros n; used = 0 })

-- words that stand inside a list don't change where it goes on
pub own_words : (u n : ℕ) (registers more : List ℤ) → u + n ≤ length registers → take n (drop u (registers ++ more)) ≡ take n (drop u registers)
own_words zero n registers more l = take_left registers more n (omega arith)
own_words (suc u) n [] more l = absurd (omega arith)
own_words (suc u) n (x ∷ registers) more l = own_words u n registers more (omega arith)

used_is : (registers : List ℤ) (ds : List Deed) (p : Progress) → (caught_up registers ds p).used ≡ p.used + reads_in ds
used_is registers [] p = omega arith
used_is registers (d ∷ ds) p = let h = used_is registers ds (advanced registers d p) in omega arith

same_taken : (registers more : List ℤ) (ds : List Deed) (p : Progress) → p.used + reads_in ds ≤ length registers → caught_up (registers ++ more) ds p ≡ caught_up registers ds p
same_taken registers more [] p l = refl
same_taken registers more (d ∷ ds) p l =
    let n : ℕ = length d.reads in
    let own = own_words p.used n registers more (omega arith) in
    ap (λ (ws : List ℤ). caught_up (registers ++ more) ds (record { locals = kept_by d.effect p.locals (d.value p.locals ws); used = p.used + n })) own
    ∙ same_taken registers more ds (advanced registers d p) (omega arith)

pub stays : (registers more : List ℤ) (ds : List Deed) (p : Progress) → StaysTaken registers more ds p
stays registers more ds p = record { used = used_is registers ds p; same = same_taken registers more ds p }
