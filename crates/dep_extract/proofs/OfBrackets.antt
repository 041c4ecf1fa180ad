-- Each place that a row accesses is that of a bracket, less values that make the bracket's base true.
use Rattle.std.proofs.Common.{◌≡◌, ◌⊎◌, inl, inr, ℕ, ◌<◌, pos, Bool, true, false, List, [], ◌∷◌, ap, ◌∙◌, arith}
use Rattle.std.specs.List.{Contains}
use Rattle.std.proofs.lemmas.Int.{ints}
use Rattle.std.proofs.lemmas.List.Elements.{All-nil, All-cons, All-append}
use Rattle.loop_core.specs.declared.place.Place.{Place}
use Rattle.loop_core.specs.declared.nest.Nest.{Nest}
use Rattle.loop_core.specs.declared.nest.Side.TheVariants.{Own}
use Rattle.loop_core.specs.declared.nest.Term.{Term}
use Rattle.loop_core.specs.declared.nest.Atom.TheVariants.{Zero, N, Nnz}
use Rattle.loop_core.specs.Lists.{Lists}
use Rattle.loop_core.specs.Binding.{Binding}
use Rattle.loop_core.specs.Terms.{term_value}
use Rattle.loop_core.specs.Instances.{instances}
use Rattle.loop_core.specs.IsNest.{IsNest}
use Rattle.loop_core.specs.Touches.{Reads, Writes}
use Rattle.uf_constraints.specs.declared.system.Diff.{Diff}
use Rattle.uf_constraints.specs.declared.reach.Bracket.{Bracket}
use Rattle.uf_constraints.specs.declared.reach.Spot.{Spot}
use Rattle.uf_constraints.specs.Truth.{Holds, AllHold}
use Rattle.uf_constraints.specs.Universe.{plain}
use Rattle.uf_constraints.specs.Brackets.{spots}
use Rattle.uf_constraints.specs.Bases.{at_most, less, on, variable, said_by_all, of_sizes, bracket_base}
use Rattle.dep_extract.proofs.Worth.{on_line, value_on}
use Rattle.dep_extract.proofs.Turns.{Does}
use Rattle.dep_extract.proofs.Reached.{Led}
use Rattle.dep_extract.proofs.Holding.{up_to_holds, under_holds, zero_is, rows_are, stored_are, variable_is, met_holds}
use Rattle.dep_extract.proofs.Dependent.{led}

module _ (nest : Nest) (a : Lists) (is_nest : IsNest nest) (i : ℕ) (p : Place) (below : i < a.n) where
  abbrev FromBracket : Type 0
  FromBracket =
      (s : Spot) × (b : Bracket) × (env : List Binding) × Contains (spots nest) s × Contains s.brackets b
      × (b.array ≡ p.array) × AllHold a env (bracket_base nest s) × (term_value a env (on Own b.at) ≡ p.at)

  base_of : (s : Spot) (e : List Binding) → on_line e Own nest.line ≡ pos i → AllHold a e (said_by_all Own s.around) → AllHold a e (bracket_base nest s)
  base_of s e at said =
      let P : Diff → Type 0 = Holds a e in
      let x : Term = variable Own nest.line in
      let rest : List Diff = said_by_all Own s.around in
      let z = zero_is a e in
      let n = rows_are a e in
      let m = stored_are a e in
      let v : term_value a e x ≡ pos i = variable_is a e Own nest.line ∙ at in
      let h1 = up_to_holds a e (plain Zero) (plain N) (omega (arith, ints, z, n)) in
      let h2 = up_to_holds a e (plain Zero) (plain Nnz) (omega (arith, ints, z, m)) in
      let h3 = up_to_holds a e (plain Zero) x (omega (arith, ints, z, v)) in
      let h4 = under_holds a e x (plain N) (omega (arith, ints, v, n, below)) in
      All-append P of_sizes (at_most (plain Zero) x ∷ (less x (plain N) ∷ rest))
      (All-cons P (at_most (plain Zero) (plain N)) (at_most (plain Zero) (plain Nnz) ∷ []) h1 (All-cons P (at_most (plain Zero) (plain Nnz)) [] h2 (All-nil P)))
      (All-cons P (at_most (plain Zero) x) (less x (plain N) ∷ rest) h3 (All-cons P (less x (plain N)) rest h4 said))

  found : (w : Bool) → Does w (instances a nest (pos i)) p → FromBracket
  found w d =
      let l = led nest a is_nest i w p d in
      by l.0 l.1 l.2
    where
      by : (e : List Binding) → on_line e Own nest.line ≡ pos i → Led a w p (on_line e Own) (spots nest) → FromBracket
      by e at l =
          let b : Bracket = l.3.0 in
          (l.0, b, e, l.1, l.3.1, ap (λ (q : Place). q.array) l.3.3, base_of l.0 e at (met_holds a e Own l.0.around l.2), value_on a e Own b.at ∙ ap (λ (q : Place). q.at) l.3.3)

  pub from_bracket : Reads (instances a nest (pos i)) p ⊎ Writes (instances a nest (pos i)) p → FromBracket
  from_bracket (inl d) = found false d
  from_bracket (inr d) = found true d
