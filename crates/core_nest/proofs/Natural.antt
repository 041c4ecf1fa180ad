-- Cells of places, and the words in them.
use Rattle.std.proofs.Common.{◌≡◌, ℕ, ℤ, pos, List, [], ◌∷◌, get_or, map, Some, refl, sym, ap, ◌∙◌}
use Rattle.std.specs.Prelude.{slice_get}
use Rattle.std.proofs.lemmas.Option.{get_or_from_slice_get}
use Rattle.wave_base.specs.declared.types.Cell.{Cell}
use Rattle.loop_core.specs.declared.place.Place.{Place}
use Rattle.loop_core.specs.Lists.{entry, written}
use Rattle.loop_core.specs.Instances.{Formula, natural}
use Rattle.loop_core.specs.Values.{reads}
use Rattle.loop_core.specs.Sequence.{word_of, words_read}
use Rattle.core_cells.specs.Cells.{at_cell, put}
use Rattle.core_cells.proofs.Places.{at_map}
use Rattle.core_nest.specs.Nested.{cell_of}
use Rattle.core_nest.proofs.Each.{Each}

-- the place isn't before its list
abbrev pub IsNatural : Place → Type 0
IsNatural p = (k : ℕ) × (p.at ≡ pos k)

pub entry_is : (y : List (List ℤ)) (p : Place) → IsNatural p → at_cell y (cell_of p) ≡ word_of y p
entry_is y p n = ap (λ (z : ℤ). at_cell y (cell_of (record { array = p.array; at = z }))) n.1 ∙ ap (entry y p.array) (sym n.1)

pub put_is : (y : List (List ℤ)) (p : Place) (v : ℤ) → IsNatural p → put y (cell_of p) v ≡ written y p.array p.at v
put_is y p v n = ap (λ (z : ℤ). put y (cell_of (record { array = p.array; at = z })) v) n.1 ∙ ap (λ (z : ℤ). written y p.array z v) (sym n.1)

pub same_place : (p q : Place) → IsNatural p → IsNatural q → cell_of p ≡ cell_of q → p ≡ q
same_place p q n m e =
    let at : n.0 ≡ m.0 = ap natural (sym n.1) ∙ (ap (λ (c : Cell). c.at) e ∙ ap natural m.1) in
    let ats : p.at ≡ q.at = n.1 ∙ (ap pos at ∙ sym m.1) in
    λ i. record { array = (e i).array; at = ats i }

pub entries_are : (y : List (List ℤ)) (ps : List Place) → Each IsNatural ps → map (at_cell y) (map cell_of ps) ≡ map (word_of y) ps
entries_are y [] h = refl
entries_are y (p ∷ ps) h =
    let one = entry_is y p h.0 in
    let more = entries_are y ps h.1 in
    λ i. one i ∷ more i

-- the r-th read finds the word of the r-th place
pub read_finds : (y : List (List ℤ)) (f : Formula) (r : ℕ) (p : Place) → slice_get (reads f) r ≡ Some p → get_or (words_read y f) r (pos 0) ≡ word_of y p
read_finds y f r p e = get_or_from_slice_get (words_read y f) r (word_of y p) (pos 0) (at_map (word_of y) (reads f) r p e)
