-- What a closure answers of constraints, and of the relations whose bases follow.
use Rattle.std.proofs.Common.{ℕ, ℤ, ◌+◌, ◌<◌, ◌≤◌, ◌≡◌, ◌⊎◌, inl, inr, arith, refl, sym, ◌∙◌, subst, List, [], length, slice_get, slice_index_or, Option, None, Some, true, false, int_le}
use Rattle.std.specs.Prelude.{◌≤ℤ◌, MatchOption}
use Rattle.std.specs.Int.Signed.{◌<ℤ◌}
use Rattle.std.proofs.lemmas.Int.{ints}
use Rattle.std.proofs.lemmas.Bool.{cases_eq}
use Rattle.std.proofs.lemmas.Option.{same_Some}
use Rattle.loop_core.specs.declared.nest.Atom.{Atom}
use Rattle.uf_constraints.specs.declared.system.Diff.{Diff}
use Rattle.uf_constraints.specs.declared.system.Relation.{Relation}
use Rattle.index_props.specs.declared.rule.RuleInst.{RuleInst}
use Rattle.index_props.specs.Derivable.{Derivable}
use Rattle.index_props.specs.Derivable.Derivable.{weaker}
use Rattle.index_props.specs.Places as places
use Rattle.bound_ways.specs.Exact.{IsLeast}
use Rattle.dep_simplify.specs.declared.verdict.Verdict.{Verdict}
use Rattle.dep_simplify.specs.declared.verdict.Verdict.TheVariants.{Kept}
use Rattle.dep_simplify.specs.Ready.{AllFollow, IsFoundCover}

at_most : (x y : ℤ) → int_le x y ≡ true → x ≤ℤ y
at_most x y h = grind (arith, ints)

above : (x y : ℤ) → int_le x y ≡ false → y <ℤ x
above x y h = grind (arith, ints)

not_both : (x y : ℤ) → x ≤ℤ y → y <ℤ x → ⊥
not_both x y h k = omega (arith, ints)

module _ (u : List Atom) (base : List Diff) (rules : List RuleInst) where
  pub above_least : (a b : Atom) (e c : ℤ) → IsLeast u base rules a b e → int_le e c ≡ true → Derivable u base rules a b c
  above_least a b e c l h = weaker a b e c l.derivable (at_most e c h)

  pub below_least : (a b : Atom) (e c : ℤ) → IsLeast u base rules a b e → int_le e c ≡ false → Derivable u base rules a b c → ⊥
  below_least a b e c l h d = not_both e c (l.least c d) (above e c h)

  module _ (all : List Relation) (vs : List Verdict) where
    -- the relation at a place isn't a cover where it isn't kept, or its base doesn't follow
    pub no_cover : (k : ℕ) (r : Relation) (v : Verdict) → slice_get all k ≡ Some r → slice_get vs k ≡ Some v → (v ≡ Kept → AllFollow u base rules r.base → ⊥) → IsFoundCover u base rules all vs k → ⊥
    no_cover k r v there at fails f =
        let e : v ≡ Kept = same_Some v Kept (sym at ∙ f.kept) in
        let g : f.relation ≡ r = same_Some f.relation r (sym f.there ∙ there) in
        fails e (subst (λ (x : Relation). AllFollow u base rules x.base) g f.follow)

    pub none_more : (k : ℕ) → ((j : ℕ) → j < k → IsFoundCover u base rules all vs j → ⊥) → (IsFoundCover u base rules all vs k → ⊥) → (j : ℕ) → j < k + 1 → IsFoundCover u base rules all vs j → ⊥
    none_more k below here j l f = elim (cases_eq j k) [
      | inl e ↦ here (subst (IsFoundCover u base rules all vs) e f)
      | inr e ↦ below j (omega arith) f
    ]

    pub least_is : (k : ℕ) (r : Relation) (v : Verdict) → slice_get all k ≡ Some r → slice_get vs k ≡ Some v → v ≡ Kept → AllFollow u base rules r.base → ((j : ℕ) → j < k → IsFoundCover u base rules all vs j → ⊥) → places.IsLeast (IsFoundCover u base rules all vs) k
    least_is k r v there at e follow below = record {
      holds = record { kept = subst (λ (x : Verdict). slice_get vs k ≡ Some x) e at; relation = r; there = there; follow = follow };
      least = below;
    }
