-- What stamps say after some were written.
use Rattle.std.proofs.Common.{◌≡◌, ℕ, ◌<◌, ◌∙◌, ◌⊎◌, inl, inr, List, [], ◌∷◌, Bool, true, false, eqb, ◌||◌, length, get_or, set, arith, refl, ap, sym}
use Rattle.std.proofs.lemmas.Bool.{cases_eq, ne_eqb, eq-eqb, or_from}
use Rattle.std.proofs.lemmas.List.{length-set, get_or-set_same, get_or-set_other}
use Rattle.wave_base.specs.declared.types.RowId.{RowId}
use Rattle.row_graph.specs.Rows.{row}
use Rattle.row_graph.proofs.Members.{In}
use Rattle.wait_sparsify.specs.Survivors.{is_stamped}
use Rattle.wait_sparsify.specs.Written.{written}

-- a row is among some, or not
pub In-cases : (u : ℕ) (rows : List RowId) → In (row u) rows ⊎ (In (row u) rows → ⊥)
In-cases u [] = inr (λ h. h)
In-cases u (r ∷ rows) =
    elim (cases_eq r.0 u) [
      | inl e ↦ inl (inl (ap row e))
      | inr ne ↦ elim (In-cases u rows) [
        | inl i ↦ inl (inr i)
        | inr lacks ↦ inr (λ (h : In (row u) (r ∷ rows)). elim h as (λ _. ⊥) [ inl e ↦ ne (ap (λ (r : RowId). r.0) e) | inr i ↦ lacks i ])
      ]
    ]

pub length-written : (value : ℕ) (rows : List RowId) (numbers : List ℕ) → length (written value rows numbers) ≡ length numbers
length-written value [] numbers = refl
length-written value (r ∷ rows) numbers = length-written value rows (set numbers r.0 value) ∙ length-set numbers r.0 value

-- a number that is the value stays so
written-stays : (value : ℕ) (rows : List RowId) (numbers : List ℕ) (u : ℕ) → u < length numbers → get_or numbers u 0 ≡ value → get_or (written value rows numbers) u 0 ≡ value
written-stays value [] numbers u l e = e
written-stays value (r ∷ rows) numbers u l e =
    let m : u < length (set numbers r.0 value) = omega (arith, length-set numbers r.0 value, l) in
    let s : get_or (set numbers r.0 value) u 0 ≡ value = elim (cases_eq u r.0) as (λ _. get_or (set numbers r.0 value) u 0 ≡ value) [
      | inl q ↦ ap (λ k. get_or (set numbers k value) u 0) (sym q) ∙ get_or-set_same numbers u value 0 l
      | inr ne ↦ get_or-set_other numbers r.0 u value 0 ne ∙ e
    ] in
    written-stays value rows (set numbers r.0 value) u m s

pub written-in : (value : ℕ) (rows : List RowId) (numbers : List ℕ) (u : ℕ) → u < length numbers → In (row u) rows → get_or (written value rows numbers) u 0 ≡ value
written-in value [] numbers u l h = absurd h
written-in value (r ∷ rows) numbers u l (inl e) =
    let q : r.0 ≡ u = ap (λ (r : RowId). r.0) e in
    let m : u < length (set numbers r.0 value) = omega (arith, length-set numbers r.0 value, l) in
    written-stays value rows (set numbers r.0 value) u m (ap (λ k. get_or (set numbers k value) u 0) q ∙ get_or-set_same numbers u value 0 l)
written-in value (r ∷ rows) numbers u l (inr h) =
    let m : u < length (set numbers r.0 value) = omega (arith, length-set numbers r.0 value, l) in
    written-in value rows (set numbers r.0 value) u m h

pub written-out : (value : ℕ) (rows : List RowId) (numbers : List ℕ) (u : ℕ) → (In (row u) rows → ⊥) → get_or (written value rows numbers) u 0 ≡ get_or numbers u 0
written-out value [] numbers u lacks = refl
written-out value (r ∷ rows) numbers u lacks =
    let ne : u ≡ r.0 → ⊥ = λ (e : u ≡ r.0). lacks (inl (ap row (sym e))) in
    written-out value rows (set numbers r.0 value) u (λ h. lacks (inr h)) ∙ get_or-set_other numbers r.0 u value 0 ne

or_left : (a b : Bool) → a ≡ true → (a || b) ≡ true
or_left true b e = refl
or_left false b e = absurd (cc)

or_right : (a b : Bool) → b ≡ true → (a || b) ≡ true
or_right true b e = refl
or_right false b e = e

pub stamped_in : (numbers : List ℕ) (value : ℕ) (rows : List RowId) (v : RowId) → In v rows → get_or numbers v.0 0 ≡ value → is_stamped numbers value rows ≡ true
stamped_in numbers value [] v h e = absurd h
stamped_in numbers value (r ∷ rows) v (inl q) e =
    let z : r.0 ≡ v.0 = ap (λ (r : RowId). r.0) q in
    or_left (eqb (get_or numbers r.0 0) value) (is_stamped numbers value rows) (eq-eqb (get_or numbers r.0 0) value (ap (λ k. get_or numbers k 0) z ∙ e))
stamped_in numbers value (r ∷ rows) v (inr h) e = or_right (eqb (get_or numbers r.0 0) value) (is_stamped numbers value rows) (stamped_in numbers value rows v h e)

pub stamped_none_of : (numbers : List ℕ) (value : ℕ) (rows : List RowId) → ((v : RowId) → In v rows → get_or numbers v.0 0 ≡ value → ⊥) → is_stamped numbers value rows ≡ false
stamped_none_of numbers value [] h = refl
stamped_none_of numbers value (r ∷ rows) h =
    or_from (eqb (get_or numbers r.0 0) value) (is_stamped numbers value rows) (ne_eqb (get_or numbers r.0 0) value (h r (inl refl))) (stamped_none_of numbers value rows (λ v i. h v (inr i)))
