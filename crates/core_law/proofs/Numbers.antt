-- The numbers of instances, and their rows.
use Rattle.std.proofs.Common.{◌≡◌, ℕ, zero, suc, ◌+◌, ◌-◌, ◌<◌, ◌≤◌, true, false, List, [], ◌∷◌, length, get_or, take, refl, sym, ap, ◌∙◌, ⊎_elim, arith}
use Rattle.std.specs.Prelude.{◌==◌}
use Rattle.std.proofs.lemmas.List.{length-append}
use Rattle.std.proofs.lemmas.List.Concat.{get_or-flat_map}
use Rattle.std.proofs.lemmas.Bool.{cases_lt}
use Rattle.std.proofs.lemmas.Bool.Decides.{nat_tests}
use Rattle.std.specs.List.{flat_map}
use Rattle.core_law.specs.Works.{Instance, Work}
use Rattle.core_law.specs.Numbers.{instance_at, first, row_in, nothing, opens, IsNumbered}

abbrev pub start_in : List (List Instance) → ℕ → ℕ
start_in rows i = length (flat_map (λ (r : List Instance). r) (take i rows))

row_small : (r : List Instance) (rs : List (List Instance)) (g : ℕ) → g < length r → row_in (r ∷ rs) g ≡ 0
row_small r rs g l = grind (arith, nat_tests)

row_large : (r : List Instance) (rs : List (List Instance)) (g h : ℕ) → g ≡ length r + h → row_in (r ∷ rs) g ≡ suc (row_in rs h)
row_large r rs g h e = let l : length r ≤ g = omega arith in let d : g - length r ≡ h = omega arith in
    passed l ∙ ap (λ (i : ℕ). suc (row_in rs i)) d
  where
    passed : length r ≤ g → row_in (r ∷ rs) g ≡ suc (row_in rs (g - length r))
    passed l = grind (arith, nat_tests)

pub row_is : (rows : List (List Instance)) (i j : ℕ) → i < length rows → j < length (get_or rows i []) → row_in rows (start_in rows i + j) ≡ i
row_is [] i j a b = absurd (omega arith)
row_is (r ∷ rs) zero j a b = row_small r rs (start_in (r ∷ rs) zero + j) (omega arith)
row_is (r ∷ rs) (suc i) j a b = let n = length-append r (flat_map (λ (q : List Instance). q) (take i rs)) in
    row_large r rs (start_in (r ∷ rs) (suc i) + j) (start_in rs i + j) (omega arith) ∙ ap suc (row_is rs i j (omega arith) b)

pub row_rises : (rows : List (List Instance)) (h g : ℕ) → h ≤ g → row_in rows h ≤ row_in rows g
row_rises [] h g l = omega arith
row_rises (r ∷ rs) h g l = ⊎_elim
    (λ (a : h < length r). let e = row_small r rs h a in omega arith)
    (λ (a : length r ≤ h). let e = row_large r rs h (h - length r) (omega arith) in let e' = row_large r rs g (g - length r) (omega arith) in
    let n = row_rises rs (h - length r) (g - length r) (omega arith) in omega arith)
    (cases_lt h (length r))

pub place_of : (rows : List (List Instance)) (g : ℕ) → g < length (flat_map (λ (r : List Instance). r) rows)
    → (i : ℕ) × (j : ℕ) × (i < length rows) × (j < length (get_or rows i [])) × (g ≡ start_in rows i + j)
place_of [] g l = absurd (omega arith)
place_of (r ∷ rs) g l = ⊎_elim
    (λ (a : g < length r). (0, g, omega arith, a, omega arith))
    (λ (a : length r ≤ g). let n = length-append r (flat_map (λ (q : List Instance). q) rs) in let t = place_of rs (g - length r) (omega arith) in
    let m = length-append r (flat_map (λ (q : List Instance). q) (take t.0 rs)) in let u = t.2 in let v = t.4 in (suc t.0, t.1, omega arith, t.3, omega arith))
    (cases_lt g (length r))

pub small : (rows : List (List Instance)) (i j : ℕ) → i < length rows → j < length (get_or rows i []) → start_in rows i + j < length (flat_map (λ (r : List Instance). r) rows)
small [] i j a b = absurd (omega arith)
small (r ∷ rs) zero j a b = let n = length-append r (flat_map (λ (q : List Instance). q) rs) in omega arith
small (r ∷ rs) (suc i) j a b = let n = length-append r (flat_map (λ (q : List Instance). q) rs) in let m = length-append r (flat_map (λ (q : List Instance). q) (take i rs)) in
    let h = small rs i j (omega arith) b in omega arith

pub instance_is : (w : Work) (i j : ℕ) → i < length w.rows → j < length (get_or w.rows i []) → instance_at w (first w i + j) ≡ get_or (get_or w.rows i []) j nothing
instance_is w i j a b = get_or-flat_map (λ (r : List Instance). r) w.rows i j [] nothing a b

same_number : (a b : ℕ) → a ≡ b → (a == b) ≡ true
same_number a b e = grind (arith, nat_tests)

other_number : (a b : ℕ) → a < b → (a == b) ≡ false
other_number a b l = grind (arith, nat_tests)

-- the first instance of a row begins it, and no other does
pub first_opens : (w : Work) (i : ℕ) → i < length w.rows → 0 < length (get_or w.rows i []) → opens w (first w i + 0) ≡ true
first_opens w i a b = ap (λ (r : ℕ). first w r == first w i + 0) (row_is w.rows i 0 a b) ∙ same_number (first w i) (first w i + 0) (omega arith)

pub later_opens_not : (w : Work) (i j : ℕ) → i < length w.rows → suc j < length (get_or w.rows i []) → opens w (first w i + suc j) ≡ false
later_opens_not w i j a b = ap (λ (r : ℕ). first w r == first w i + suc j) (row_is w.rows i (suc j) a b) ∙ other_number (first w i) (first w i + suc j) (omega arith)

not_first : (k : ℕ) → (suc k == 0) ≡ false
not_first k = grind (arith, nat_tests)

pub numbered : (w : Work) (i j : ℕ) → i < length w.rows → j < length (get_or w.rows i []) → IsNumbered w i j
numbered w i j a b = record {
  small = small w.rows i j a b;
  here = instance_is w i j a b;
  row_is = row_is w.rows i j a b;
  opens_at = by j b;
}
  where
    by : (k : ℕ) → k < length (get_or w.rows i []) → opens w (first w i + k) ≡ (k == 0)
    by zero l = first_opens w i a l
    by (suc k) l = later_opens_not w i k a l ∙ sym (not_first k)
