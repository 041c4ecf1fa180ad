use Rattle.std.proofs.Common.{arith}
use Rattle.uf_constraints.specs.declared.system.Relation.{Relation}
use Rattle.uf_constraints.proofs.Walked.{all_step}
use Rattle.bracket_claims.specs.Claims.{relation_size, Fits}
use Rattle.bracket_claims.specs.Small.{IsSmallBase}
use Rattle.access_bounds.proofs.Counted.{at-item, if_err, all-few, full_at}
use Rattle.access_bounds.proofs.counting.count_relations.Goals as goal

pub relation_universe-requires : goal.relation_universe-requires
relation_universe-requires c = at-item (λ (r : Relation). IsSmallBase r.base) c.args.relations.now c.loop-relation.relation-index c.relation-item.result c.loop-relation-test.true c.relation-item.is c.requires

pub loop-relation-preserved : goal.loop-relation-preserved
loop-relation-preserved c =
    all_step (λ r. Fits (relation_size c.args.props.now r)) c.args.relations.now c.loop-relation.relation-index c.relation-item.result c.loop-relation-test.true c.relation-item.is c.loop-relation.invariant c.in_ok-relation_universe.ensures.fits

pub returns-in_err-relation_universe-clause-full : goal.returns-in_err-relation_universe-clause-full
returns-in_err-relation_universe-clause-full c =
    if_err c.from_residual.result c.in_err-relation_universe.field-0.0 _ c.from_residual.ensures.1
    (full_at (relation_size c.args.props.now) c.args.relations.now c.loop-relation.relation-index c.relation-item.result c.in_err-relation_universe.field-0.0 c.loop-relation-test.true c.relation-item.is c.loop-relation.invariant c.in_err-relation_universe.ensures.full)

pub returns-clause-few : goal.returns-clause-few
returns-clause-few c = all-few (relation_size c.args.props.now) c.args.relations.now c.loop-relation.relation-index (omega arith) c.loop-relation.invariant
