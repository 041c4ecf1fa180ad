-- The arrays that a row accesses are arrays of data.
use Rattle.std.proofs.Common.{◌≡◌, ◌⊎◌, inl, inr, ℕ, pos, IsTrue, Bool, true, false, sym, ap, ◌∙◌, subst}
use Rattle.std.specs.List.{Contains}
use Rattle.std.proofs.lemmas.List.Elements.{All-contains}
use Rattle.wave_base.specs.declared.types.ArrayId.{ArrayId}
use Rattle.loop_core.specs.declared.place.Place.{Place}
use Rattle.loop_core.specs.declared.nest.Nest.{Nest}
use Rattle.loop_core.specs.declared.nest.Side.TheVariants.{Own}
use Rattle.loop_core.specs.Lists.{Lists}
use Rattle.loop_core.specs.Sizes.{is_data}
use Rattle.loop_core.specs.Instances.{instances}
use Rattle.loop_core.specs.IsNest.{IsNest}
use Rattle.loop_core.specs.Touches.{Reads, Writes}
use Rattle.uf_constraints.specs.declared.reach.Usage.{Usage}
use Rattle.uf_constraints.specs.declared.reach.Usage.TheVariants.{Entry}
use Rattle.uf_constraints.specs.Brackets.{spots}
use Rattle.dep_extract.proofs.Worth.{on_line}
use Rattle.dep_extract.proofs.Writing.{use_of}
use Rattle.dep_extract.proofs.Reached.{Led}
use Rattle.dep_extract.proofs.Turns.{Does}
use Rattle.dep_extract.proofs.Dependent.{led}
use Rattle.bracket_claims.proofs.Lines.{IsFineSpot, IsFineBracket, HasSmallTerms, spots-fine}

not_entry : (w : Bool) → use_of w ≡ Entry → ⊥
not_entry true e = absurd (cc)
not_entry false e = absurd (cc)

module _ (nest : Nest) (a : Lists) (is_nest : IsNest nest) (terms : HasSmallTerms nest) (i : ℕ) (p : Place) where
  does_data : (w : Bool) → Does w (instances a nest (pos i)) p → IsTrue (is_data nest.decls p.array)
  does_data w d = by (led nest a is_nest i w p d).2
    where
      of : (u : Usage) (f : ArrayId) → u ≡ use_of w → f ≡ p.array → (u ≡ Entry) ⊎ IsTrue (is_data nest.decls f) → IsTrue (is_data nest.decls p.array)
      of u f is same (inl e) = absurd (not_entry w (sym is ∙ e))
      of u f is same (inr h) = subst (λ (f : ArrayId). IsTrue (is_data nest.decls f)) same h

      by : Led a w p (on_line (led nest a is_nest i w p d).0 Own) (spots nest) → IsTrue (is_data nest.decls p.array)
      by (s, c, met, (b, in_s, usage, place)) =
          let spot = All-contains (IsFineSpot nest.decls) (spots nest) s (spots-fine nest is_nest terms) c in
          let bracket = All-contains (IsFineBracket nest.decls) s.brackets b spot.brackets in_s in
          of b.usage b.array usage (ap (λ (q : Place). q.array) place) bracket.1

  pub accessed-data : Reads (instances a nest (pos i)) p ⊎ Writes (instances a nest (pos i)) p → IsTrue (is_data nest.decls p.array)
  accessed-data (inl d) = does_data false d
  accessed-data (inr d) = does_data true d
