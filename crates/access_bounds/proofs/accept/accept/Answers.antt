use Rattle.std.proofs.Common.{◌≡◌, ◌∙◌, ap, subst}
use Rattle.loop_core.specs.declared.decl.PropDecl.{PropDecl}
use Rattle.props_once.specs.Repeats.{without_repeats}
use Rattle.access_bounds.specs.Accepted.{IsAcceptedBy, IsCauseBy}
use Rattle.access_bounds.proofs.Counted.{if_err}
use Rattle.access_bounds.proofs.Transfer.{accepted-from, cause-from}
use Rattle.access_bounds.proofs.accept.accept.Goals as goal

pub invariant_of-result : goal.invariant_of-result
invariant_of-result c =
    let same = c.as_slice-2.ensures ∙ c.in_ok-props.ensures ∙ ap without_repeats c.as_slice.ensures in
    (c.requires, accepted-from c.args.nest (subst (IsAcceptedBy c.args.nest) same c.in_ok-judge.ensures.accepted))

pub returns-clause-accepted : goal.returns-clause-accepted
returns-clause-accepted c =
    let same = c.as_slice-2.ensures ∙ c.in_ok-props.ensures ∙ ap without_repeats c.as_slice.ensures in
    accepted-from c.args.nest (subst (IsAcceptedBy c.args.nest) same c.in_ok-judge.ensures.accepted)

pub returns-in_err-judge-clause-refused : goal.returns-in_err-judge-clause-refused
returns-in_err-judge-clause-refused c =
    let same = c.as_slice-2.ensures ∙ c.in_ok-props.ensures ∙ ap without_repeats c.as_slice.ensures in
    if_err c.from_residual-in_err-judge.result c.in_err-judge.field-0.0 _ c.from_residual-in_err-judge.ensures.1
    (cause-from c.args.nest c.in_err-judge.field-0.0 (subst (λ props. IsCauseBy c.args.nest props c.in_err-judge.field-0.0) same c.in_err-judge.ensures.refused))
