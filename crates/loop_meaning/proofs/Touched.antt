-- Lemmas on accesses: what the moves of a walk list, and which cells come of places.
use Rattle.std.proofs.Common.{◌≡◌, ◌⊎◌, inl, inr, ℕ, zero, suc, ◌<◌, ℤ, pos, negsuc, Bool, true, false, ◌&&◌, nat_lt, if◌then◌else◌, Option, Some, None, List, [], ◌∷◌, ◌++◌, length, slice_index_or, refl, sym, ap, ◌∙◌, subst, append_assoc, arith}
use Rattle.std.specs.List.{Contains, flat_map, filter_map, cons_option}
use Rattle.std.proofs.lemmas.List.Elements.{Contains-append_left, Contains-append_right, Contains-append_cases}
use borrow.Author.Tests.{ltb-true, lt-ltb}
use Rattle.wave_base.specs.declared.types.ArrayId.{ArrayId}
use Rattle.wave_base.specs.declared.types.Cell.{Cell}
use Rattle.loop_core.specs.declared.nest.Nest.{Nest}
use Rattle.loop_core.specs.Lists.{Lists}
use Rattle.loop_core.specs.Sizes.{declared_length}
use Rattle.loop_core.specs.Shape.{is_target}
use Rattle.loop_core.specs.declared.effect.Effect.{Effect}
use Rattle.loop_core.specs.declared.effect.Effect.TheVariants.{Sets, Keeps}
use Rattle.loop_core.specs.Instances.{Instance}
use Rattle.loop_core.specs.declared.place.Place.{Place}
use Rattle.loop_core.specs.Touches.{reads, place_of, IsTouchable, Reads, Writes}
use Rattle.loop_meaning.specs.Leads.{Leads}
use Rattle.loop_meaning.specs.Accesses.{places_set, cell_at, cell_of}

first : {X : Type 0} (x : X) (xs : List X) → Contains (x ∷ xs) x
first x xs = (0, omega arith, refl)

later : {X : Type 0} (y x : X) (xs : List X) → Contains xs x → Contains (y ∷ xs) x
later y x xs c = (suc c.0, omega (arith, c.1), c.2)

at_front : {X : Type 0} (y x : X) (xs : List X) (k : ℕ) → k < length (y ∷ xs) → slice_index_or (y ∷ xs) k x ≡ x → (y ≡ x) ⊎ Contains xs x
at_front y x xs zero lt is = inl is
at_front y x xs (suc k) lt is = inr (k, omega arith, is)

Contains-cons_cases : {X : Type 0} (y x : X) (xs : List X) → Contains (y ∷ xs) x → (y ≡ x) ⊎ Contains xs x
Contains-cons_cases y x xs c = at_front y x xs c.0 c.1 c.2

-- a place is among those of some instance just where it is among those of all
module _ (places : Instance → List Place) where
  pub found_in : (xs : List Instance) (p : Place) → Contains (flat_map places xs) p → (s : Instance) × Contains xs s × Contains (places s) p
  found_in [] p c = absurd (omega (arith, c.1))
  found_in (x ∷ xs) p c =
      elim (Contains-append_cases (places x) (flat_map places xs) p c) as (λ _. (s : Instance) × Contains (x ∷ xs) s × Contains (places s) p) [
        | inl here ↦ (x, first x xs, here)
        | inr there ↦ let r = found_in xs p there in (r.0, later x r.0 xs r.1, r.2)
      ]

  listed_at : (xs : List Instance) (p : Place) (s : Instance) (k : ℕ) → k < length xs → slice_index_or xs k s ≡ s → Contains (places s) p → Contains (flat_map places xs) p
  listed_at [] p s k lt is c = absurd (omega arith)
  listed_at (x ∷ xs) p s zero lt is c =
      Contains-append_left (places x) (flat_map places xs) p (subst (λ (z : Instance). Contains (places z) p) (sym is) c)
  listed_at (x ∷ xs) p s (suc k) lt is c =
      Contains-append_right (places x) (flat_map places xs) p (listed_at xs p s k (omega arith) is c)

  pub listed_in : (xs : List Instance) (p : Place) (s : Instance) → Contains xs s → Contains (places s) p → Contains (flat_map places xs) p
  listed_in xs p s i c = listed_at xs p s i.0 i.1 i.2 c

-- the places that instances read
pub reads_of : (xs : List Instance) (p : Place) → Contains (flat_map (λ s. reads s.value) xs) p → Reads xs p
reads_of xs p c = found_in (λ s. reads s.value) xs p c

pub reads_in : (xs : List Instance) (p : Place) → Reads xs p → Contains (flat_map (λ s. reads s.value) xs) p
reads_in xs p r = listed_in (λ s. reads s.value) xs p r.0 r.1 r.2

-- the places that instances set
set_of : (e : Effect) (p : Place) → Contains (places_set e) p → e ≡ Sets p
set_of (Sets place) p (zero, lt, is) = ap Sets is
set_of (Sets place) p (suc k, lt, is) = absurd (omega (arith, lt))
set_of (Keeps local) p c = absurd (omega (arith, c.1))

pub writes_of : (xs : List Instance) (p : Place) → Contains (flat_map (λ s. places_set s.effect) xs) p → Writes xs p
writes_of xs p c = let r = found_in (λ s. places_set s.effect) xs p c in (r.0, r.1, set_of r.0.effect p r.2)

pub writes_in : (xs : List Instance) (p : Place) → Writes xs p → Contains (flat_map (λ s. places_set s.effect) xs) p
writes_in xs p w =
    listed_in (λ s. places_set s.effect) xs p w.0 w.1 (subst (λ (e : Effect). Contains (places_set e) p) (sym w.2) (first p []))

-- the cell of a place can be touched and stands there
found : (b : Bool) (d c : Cell) → (if b then Some d else None) ≡ Some c → (b ≡ true) × (d ≡ c)
found true d c e = (refl, cc)
found false d c e = absurd (cc)

both : (s t : Bool) → (s && t) ≡ true → (s ≡ true) × (t ≡ true)
both true t e = (refl, e)
both false t e = absurd (cc)

cell_at_is : (a : Lists) (nest : Nest) (array : ArrayId) (at : ℤ) (c : Cell) → cell_at a nest array at ≡ Some c → IsTouchable a nest c × (array ≡ c.array) × (at ≡ pos c.at)
cell_at_is a nest array (pos at) c e =
    let d : Cell = record { array = array; at = at } in
    let f = found (is_target nest array && nat_lt at (declared_length nest.decls a.n a.nnz array)) d c e in
    let t = both (is_target nest array) (nat_lt at (declared_length nest.decls a.n a.nnz array)) f.0 in
    let here : IsTouchable a nest d = (t.0, ltb-true at (declared_length nest.decls a.n a.nnz array) t.1) in
    (subst (λ (z : Cell). IsTouchable a nest z) f.1 here, ap (λ (z : Cell). z.array) f.1, ap (λ (z : Cell). pos z.at) f.1)
cell_at_is a nest array (negsuc k) c e = absurd (cc)

pub cell_is : (a : Lists) (nest : Nest) (p : Place) (c : Cell) → cell_of a nest p ≡ Some c → IsTouchable a nest c × (p ≡ place_of c)
cell_is a nest p c e =
    let f = cell_at_is a nest p.array p.at c e in (
      f.0,
      ap (λ (array : ArrayId). let q : Place = record { array = array; at = p.at } in q) f.1
          ∙ ap (λ (at : ℤ). let q : Place = record { array = c.array; at = at } in q) f.2,
    )

pub cell_found : (a : Lists) (nest : Nest) (c : Cell) → IsTouchable a nest c → cell_of a nest (place_of c) ≡ Some c
cell_found a nest c t =
    let inside : nat_lt c.at (declared_length nest.decls a.n a.nnz c.array) ≡ true = lt-ltb c.at (declared_length nest.decls a.n a.nnz c.array) t.1 in
    ap (λ b. if (b && nat_lt c.at (declared_length nest.decls a.n a.nnz c.array)) then Some c else None) t.0
    ∙ ap (λ b. if b then Some c else None) inside

-- a case on what is found at a place
known : {Y : Type 0} (P : Option Y → Type 0) (o : Option Y) → (o ≡ None → P None) → ((y : Y) → o ≡ Some y → P (Some y)) → P o
known P None none some = none refl
known P (Some y) none some = some y refl

pub cells_of : (a : Lists) (nest : Nest) (ps : List Place) (c : Cell) → Contains (filter_map (cell_of a nest) ps) c → IsTouchable a nest c × Contains ps (place_of c)
cells_of a nest [] c = λ h. absurd (omega (arith, h.1))
cells_of a nest (p ∷ ps) c =
    let more = filter_map (cell_of a nest) ps in
    let claim : Type 0 = IsTouchable a nest c × Contains (p ∷ ps) (place_of c) in
    let rest : Contains more c → claim = λ h. let r = cells_of a nest ps c h in (r.0, later p (place_of c) ps r.1) in
    known (λ (o : Option Cell). Contains (cons_option o more) c → claim) (cell_of a nest p) (λ e h. rest h)
    (λ d e h. elim (Contains-cons_cases d c more h) as (λ _. claim) [
      | inl same ↦ let f = cell_is a nest p c (e ∙ ap Some same) in (f.0, (0, omega arith, f.1))
      | inr there ↦ rest there
    ])

cells_in' : (a : Lists) (nest : Nest) (ps : List Place) (c : Cell) (k : ℕ) → IsTouchable a nest c → k < length ps → slice_index_or ps k (place_of c) ≡ place_of c → Contains (filter_map (cell_of a nest) ps) c
cells_in' a nest [] c k t lt is = absurd (omega arith)
cells_in' a nest (p ∷ ps) c zero t lt is =
    let more = filter_map (cell_of a nest) ps in
    subst (λ (o : Option Cell). Contains (cons_option o more) c) (sym (ap (cell_of a nest) is ∙ cell_found a nest c t)) (first c more)
cells_in' a nest (p ∷ ps) c (suc k) t lt is =
    let more = filter_map (cell_of a nest) ps in
    let there = cells_in' a nest ps c k t (omega arith) is in
    known (λ (o : Option Cell). Contains (cons_option o more) c) (cell_of a nest p) (λ e. there) (λ d e. later d c more there)

pub cells_in : (a : Lists) (nest : Nest) (ps : List Place) (c : Cell) → IsTouchable a nest c → Contains ps (place_of c) → Contains (filter_map (cell_of a nest) ps) c
cells_in a nest ps c t h = cells_in' a nest ps c h.0 t h.1 h.2

append_nil : (ps : List Place) → ps ++ [] ≡ ps
append_nil [] = refl
append_nil (p ∷ ps) = ap (λ (qs : List Place). p ∷ qs) (append_nil ps)

-- what the moves of a walk list
pub listed : {S : Type 0} (places : S → List Place) (of : Instance → List Place) (moves : S → Instance → S → Type 0) → ((x : S) (i : Instance) (y : S) → moves x i y → places y ≡ places x ++ of i) → (s : S) (xs : List Instance) (t : S) → Leads moves s xs t → places t ≡ places s ++ flat_map of xs
listed places of moves step s [] t l = ap places (sym l) ∙ sym (append_nil (places s))
listed places of moves step s (x ∷ xs) t l =
    listed places of moves step l.0 xs t l.2
    ∙ ap (λ (ps : List Place). ps ++ flat_map of xs) (step s x l.0 l.1)
    ∙ append_assoc (places s) (of x) (flat_map of xs)
