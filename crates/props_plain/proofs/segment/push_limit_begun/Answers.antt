use Rattle.std.proofs.Common.{◌≡◌, ◌++◌, subst}
use Rattle.std.specs.Prelude.{OnOk}
use Rattle.index_props.specs.Rules.{limit_instance}
use Rattle.uf_constraints.specs.Universe.{next}
use Rattle.index_props.specs.Entries.{has_entry}
use Rattle.props_plain.proofs.Plainly.{begun}
use Rattle.props_plain.proofs.segment.push_limit_begun.Goals as goal

pub returns : goal.returns
returns c =
    let h = limit_instance c.args.strict c.args.e.now in
    let found = subst (λ t. c.in_ok-has_next.field-0 ≡ has_entry c.args.es.now c.args.p (next t)) c.index.ensures.term c.in_ok-has_next.ensures in
    subst (λ more. OnOk c.push_limit_instance.result (c.push_limit_instance.new.into ≡ c.args.into.now ++ more))
    (begun h c.args.decls.now c.args.p c.args.es.now c.args.u.now c.in_ok-has_next.field-0 c.in_ok-g.g found c.if-not-branch.false c.in_ok-g.ensures)
    c.push_limit_instance.ensures
