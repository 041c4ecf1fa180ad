use Rattle.std.proofs.Common.{subst, sym, ◌∙◌}
use Rattle.std.proofs.lemmas.Result.{IfOk-weaker}
use Rattle.bound_ways.specs.Over.{AreOver, AreRulesOver}
use Rattle.bound_close.specs.Closure.{IsClosure}
use Rattle.bracket_claims.specs.Claims.{rules_of}
use Rattle.access_bounds.proofs.Closable.{has-small-indexes, is-closed, base-is-over, is-of-claim}
use Rattle.access_bounds.proofs.closing.closure_of.Goals as goal

pub instances-requires-clause-atoms : goal.instances-requires-clause-atoms
instances-requires-clause-atoms c = has-small-indexes c.args.props.now c.args.claim.now c.requires.small c.args.u.now.atoms c.requires.atoms

pub close-requires-clause-base : goal.close-requires-clause-base
close-requires-clause-base c = subst (AreOver c.args.u.now.atoms) (sym c.as_slice.ensures) (base-is-over c.args.props.now c.args.claim.now c.requires.small c.args.u.now.atoms c.requires.atoms)

pub close-requires-clause-rules : goal.close-requires-clause-rules
close-requires-clause-rules c =
    let u = c.args.u.now.atoms in
    subst (AreRulesOver u) (sym (c.as_slice-2.ensures ∙ c.in_ok-rules.ensures))
    (c.instances_can_be_closed.ensures c.args.decls.now c.args.props.now u c.requires.names (is-closed c.args.props.now c.args.claim.now c.requires.small u c.requires.atoms) (has-small-indexes c.args.props.now c.args.claim.now c.requires.small u c.requires.atoms) c.requires.bounds)

pub returns-clause-closure : goal.returns-clause-closure
returns-clause-closure c =
    IfOk-weaker c.close.result (λ k. IsClosure k c.as_slice.result.now c.as_slice-2.result.now) (λ k. IsClosure k c.args.claim.now.base (rules_of c.args.decls.now c.args.props.now c.args.claim.now))
    (λ k h. is-of-claim c.args.props.now c.args.claim.now c.requires.small c.args.u.now.atoms c.requires.atoms c.args.decls.now k c.as_slice.result.now c.as_slice-2.result.now c.as_slice.ensures (c.as_slice-2.ensures ∙ c.in_ok-rules.ensures) h) c.close.ensures.closure
