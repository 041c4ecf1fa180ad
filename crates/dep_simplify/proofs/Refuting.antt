-- What a closure answers of the contradiction in its base.
use Rattle.std.proofs.Common.{◌≡◌, List, Option, None, Some, subst}
use Rattle.std.specs.Prelude.{MatchOption}
use Rattle.std.proofs.lemmas.Option.{MatchOption-at_some, MatchOption-at_none}
use Rattle.loop_core.specs.declared.nest.Atom.{Atom}
use Rattle.uf_constraints.specs.declared.system.Diff.{Diff}
use Rattle.index_props.specs.declared.rule.RuleInst.{RuleInst}
use Rattle.index_props.specs.declared.certificate.Cert.{Cert}
use Rattle.index_props.specs.Derivable.{IsContradictory}
use Rattle.bound_close.specs.Closure.{ShowsContradiction}

module _ (k u : List Atom) (base : List Diff) (rules : List RuleInst) (is : k ≡ u) (o : Option Cert) where
  abbrev Answered : List Atom → Type 0
  Answered atoms = MatchOption o (IsContradictory atoms base rules → ⊥) (λ cert. IsContradictory atoms base rules × ShowsContradiction atoms base rules cert.steps)

  pub contradicts : (cert : Cert) → o ≡ Some cert → Answered k → IsContradictory u base rules × ShowsContradiction u base rules cert.steps
  contradicts cert e m =
      MatchOption-at_some (IsContradictory u base rules → ⊥) (λ cert. IsContradictory u base rules × ShowsContradiction u base rules cert.steps) cert e (subst Answered is m)

  pub consists : o ≡ None → Answered k → IsContradictory u base rules → ⊥
  consists e m =
      MatchOption-at_none (IsContradictory u base rules → ⊥) (λ cert. IsContradictory u base rules × ShowsContradiction u base rules cert.steps) e (subst Answered is m)
