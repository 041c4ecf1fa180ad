-- The system of a small claim can be closed.
use Rattle.std.proofs.Common.{◌≡◌, ◌+◌, ◌^◌, List, [], ◌∷◌, ap, ◌∙◌, subst, sym}
use Rattle.std.specs.List.{All, Contains}
use Rattle.std.proofs.lemmas.List.Elements.{All-contains}
use Rattle.loop_core.specs.declared.decl.Decl.{Decl}
use Rattle.loop_core.specs.declared.decl.PropDecl.{PropDecl}
use Rattle.loop_core.specs.declared.nest.Atom.{Atom}
use Rattle.uf_constraints.specs.declared.system.Diff.{Diff}
use Rattle.uf_constraints.specs.Constants.{IndexesWithin}
use Rattle.uf_constraints.specs.Over.{IsClosed, IsOver as is_listed}
use Rattle.uf_constraints.proofs.Listed.{due_closed, due_over}
use Rattle.uf_constraints.proofs.Plainly.{due_within}
use Rattle.index_props.specs.declared.rule.RuleInst.{RuleInst}
use Rattle.index_props.specs.Rules.{instances_of}
use Rattle.rule_laws.specs.Small.{IsSmall}
use Rattle.bound_ways.specs.Over.{AreOver}
use Rattle.bound_close.specs.Closure.{Found, IsClosure}
use Rattle.bracket_claims.specs.declared.claim.Claim.{Claim}
use Rattle.bracket_claims.specs.Claims.{atoms_of, rules_of}
use Rattle.bracket_claims.specs.Small.{IsSmallClaim}

module _ (props : List PropDecl) (c : Claim) (small : IsSmallClaim c) where
  within : IndexesWithin (2 ^ 21 + 1) (atoms_of props c)
  within = due_within (2 ^ 21) c.base (c.at ∷ []) props small.base.within small.term

  over : AreOver (atoms_of props c) c.base
  over d h =
      let both = All-contains (is_listed (atoms_of props c)) c.base d (due_over c.base (c.at ∷ []) props) h in
      record { left = both.0; right = both.1; small = All-contains IsSmall c.base d small.base.sides h }

  module _ (u : List Atom) (are : u ≡ atoms_of props c) where
    pub has-small-indexes : IndexesWithin (2 ^ 21 + 1) u
    has-small-indexes = subst (IndexesWithin (2 ^ 21 + 1)) (sym are) within

    pub is-closed : IsClosed u
    is-closed = subst IsClosed (sym are) (due_closed c.base (c.at ∷ []) props)

    pub base-is-over : AreOver u c.base
    base-is-over = subst (λ v. AreOver v c.base) (sym are) over

    pub is-of-claim : (decls : List Decl) (k : Found) (base : List Diff) (rules : List RuleInst) → base ≡ c.base → rules ≡ instances_of decls props u → IsClosure k base rules → IsClosure k c.base (rules_of decls props c)
    is-of-claim decls k base rules same is h =
        subst (λ (z : List Diff × List RuleInst). IsClosure k z.0 z.1) (λ i. (same i, (is ∙ ap (instances_of decls props) are) i)) h
