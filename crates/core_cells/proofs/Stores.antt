-- The words of the cells under a write.
use Rattle.std.proofs.Common.{◌≡◌, ◌⊎◌, ℕ, zero, suc, ◌<◌, ◌≤◌, List, [], ◌∷◌, length, get_or, set, map, sym, refl, ap, ◌∙◌, subst, inl, inr, ⊎_elim, arith}
use Rattle.std.specs.Prelude.{ℤ, pos}
use Rattle.std.proofs.lemmas.List.{length-set, get_or-set_same, get_or-set_other, get_or_past, set_past, ext_get_or}
use Rattle.std.proofs.lemmas.Bool.{cases_lt, cases_eq}
use Rattle.wave_base.specs.declared.types.Cell.{Cell}
use Rattle.core_cells.specs.Cells.{at_cell, put, IsInside, lengths}

abbrev list_at : List (List ℤ) → ℕ → List ℤ
list_at x a = get_or x a []

pub put_same : (x : List (List ℤ)) (p : Cell) (v : ℤ) → IsInside x p → at_cell (put x p v) p ≡ v
put_same x p v inside = let a : ℕ = p.array.0 in let l : List ℤ = list_at x a in ⊎_elim
    (λ (there : a < length x). ap (λ (m : List ℤ). get_or m p.at (pos 0)) (get_or-set_same x a (set l p.at v) [] there) ∙ get_or-set_same l p.at v (pos 0) inside)
    (λ (past : length x ≤ a). let e = ap (λ (m : List ℤ). length m) (get_or_past x a [] past) in absurd (omega arith))
    (cases_lt a (length x))

pub cell_cases : (p q : Cell) → (p ≡ q) ⊎ (p ≡ q → ⊥)
cell_cases p q = ⊎_elim
    (λ (e : p.array.0 ≡ q.array.0). ⊎_elim
    (λ (f : p.at ≡ q.at). inl (λ i. record { array = record { 0 = e i }; at = f i }))
    (λ (ne : p.at ≡ q.at → ⊥). inr (λ z. ne (ap (λ (c : Cell). c.at) z)))
    (cases_eq p.at q.at))
    (λ (ne : p.array.0 ≡ q.array.0 → ⊥). inr (λ z. ne (ap (λ (c : Cell). c.array.0) z)))
    (cases_eq p.array.0 q.array.0)

pub put_other : (x : List (List ℤ)) (p q : Cell) (v : ℤ) → (p ≡ q → ⊥) → at_cell (put x p v) q ≡ at_cell x q
put_other x p q v ne = let a : ℕ = p.array.0 in let l : List ℤ = list_at x a in ⊎_elim
    (λ (e : q.array.0 ≡ a). ⊎_elim
    (λ (there : a < length x). let other : q.at ≡ p.at → ⊥ = (λ f. ne (λ i. record { array = record { 0 = sym e i }; at = sym f i })) in
    ap (λ (n : ℕ). get_or (list_at (set x a (set l p.at v)) n) q.at (pos 0)) e
    ∙ (ap (λ (m : List ℤ). get_or m q.at (pos 0)) (get_or-set_same x a (set l p.at v) [] there)
    ∙ (get_or-set_other l p.at q.at v (pos 0) other ∙ ap (λ (n : ℕ). get_or (list_at x n) q.at (pos 0)) (sym e))))
    (λ (past : length x ≤ a). ap (λ (m : List (List ℤ)). at_cell m q) (set_past x a (set l p.at v) past))
    (cases_lt a (length x)))
    (λ (other : q.array.0 ≡ a → ⊥). ap (λ (m : List ℤ). get_or m q.at (pos 0)) (get_or-set_other x a q.array.0 (set l p.at v) [] other))
    (cases_eq q.array.0 a)

shape_set : (x : List (List ℤ)) (a : ℕ) (l : List ℤ) → length l ≡ length (get_or x a []) → lengths (set x a l) ≡ lengths x
shape_set [] a l e = refl
shape_set (m ∷ x) zero l e = ap (λ (n : ℕ). n ∷ lengths x) e
shape_set (m ∷ x) (suc a) l e = ap (λ (ns : List ℕ). length m ∷ ns) (shape_set x a l e)

pub put_shape : (x : List (List ℤ)) (p : Cell) (v : ℤ) → lengths (put x p v) ≡ lengths x
put_shape x p v = shape_set x p.array.0 (set (list_at x p.array.0) p.at v) (length-set (list_at x p.array.0) p.at v)

pub long_at : (x : List (List ℤ)) (a : ℕ) → length (get_or x a []) ≡ get_or (lengths x) a 0
long_at [] a = refl
long_at (l ∷ x) zero = refl
long_at (l ∷ x) (suc a) = long_at x a

pub inside_same : (x y : List (List ℤ)) (p : Cell) → lengths x ≡ lengths y → IsInside x p → IsInside y p
inside_same x y p e h = subst (λ (n : ℕ). p.at < n) (long_at x p.array.0 ∙ (ap (λ (s : List ℕ). get_or s p.array.0 0) e ∙ sym (long_at y p.array.0))) h

abbrev tail : List ℕ → List ℕ
tail [] = []
tail (n ∷ ns) = ns

pub same_store : (x y : List (List ℤ)) → lengths x ≡ lengths y → ((p : Cell) → at_cell x p ≡ at_cell y p) → x ≡ y
same_store [] [] e h = refl
same_store [] (m ∷ y) e h = absurd (let n = ap (λ (s : List ℕ). length s) e in omega arith)
same_store (l ∷ x) [] e h = absurd (let n = ap (λ (s : List ℕ). length s) e in omega arith)
same_store (l ∷ x) (m ∷ y) e h = let long : length l ≡ length m = ap (λ (s : List ℕ). get_or s 0 0) e in
    let one : l ≡ m = ext_get_or (pos 0) l m long (λ i _. h record { array = record { 0 = 0 }; at = i }) in
    let more : x ≡ y = same_store x y (ap tail e) (λ p. h record { array = record { 0 = suc p.array.0 }; at = p.at }) in
    λ i. one i ∷ more i
