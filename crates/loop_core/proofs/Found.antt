-- Registers that hold what a formula's reads find give it its value.
use Rattle.std.proofs.Common.{◌≡◌, ℤ, pos, Bool, true, false, if◌then◌else◌, List, [], ◌∷◌, ◌++◌, map, drop, get_or, refl, sym, ap}
use Rattle.std.specs.List.{filter}
use Rattle.wave_base.specs.declared.types.ArrayId.{ArrayId}
use Rattle.loop_core.specs.declared.nest.Nest.{Nest}
use Rattle.loop_core.specs.declared.place.Place.{Place}
use Rattle.loop_core.specs.Lists.{entry}
use Rattle.loop_core.specs.Shape.{is_target}
use Rattle.loop_core.specs.Instances.{Formula}
use Rattle.loop_core.specs.Values.{reads, value_of}
use Rattle.loop_core.specs.Sequence.{word_of, formula_value}
use Rattle.loop_core.specs.Registers.{shared_reads, words_found, register_value}

module _ (nest : Nest) (x y : List (List ℤ)) (same : (array : ArrayId) (at : ℤ) → is_target nest array ≡ false → entry y array at ≡ entry x array at) where
  abbrev shared : List Place → List Place
  shared ps = filter (λ p. is_target nest p.array) ps

  found_one : (p : Place) (ps : List Place) (more : List ℤ) (b : Bool) → is_target nest p.array ≡ b
      → words_found nest x ps (map (word_of y) (shared ps) ++ more) ≡ map (word_of y) ps
      → (let rs : List ℤ = map (word_of y) (if b then p ∷ shared ps else shared ps) ++ more in
      if b then get_or rs 0 (pos 0) ∷ words_found nest x ps (drop 1 rs) else word_of x p ∷ words_found nest x ps rs) ≡ word_of y p ∷ map (word_of y) ps
  found_one p ps more true is rest = ap (λ (ws : List ℤ). word_of y p ∷ ws) rest
  found_one p ps more false is rest = λ i. sym (same p.array p.at is) i ∷ rest i

  found : (ps : List Place) (more : List ℤ) → words_found nest x ps (map (word_of y) (shared ps) ++ more) ≡ map (word_of y) ps
  found [] more = refl
  found (p ∷ ps) more = found_one p ps more (is_target nest p.array) refl (found ps more)

  pub registers_give : (locals : List ℤ) (f : Formula) (more : List ℤ) → register_value nest x locals f (map (word_of y) (shared_reads nest f) ++ more) ≡ formula_value y locals f
  registers_give locals f more = ap (value_of f locals) (found (reads f) more)
