use Rattle.std.proofs.Common.{arith, ◌<◌, length, take}
use Rattle.std.proofs.lemmas.List.{take_more}
use Rattle.bound_ways.proofs.Bounding.{over-item}
use Rattle.bound_ways.proofs.Named.{naming-more}
use Rattle.bound_ways.proofs.way.certify.Goals as goal

pub certify_one-requires-clause-over : goal.certify_one-requires-clause-over
certify_one-requires-clause-over c = over-item c.args.atoms.now c.args.premises.now c.loop-premise.premise-index c.premise-item.result c.requires.over (omega arith) c.premise-item.is

pub loop-premise-preserved : goal.loop-premise-preserved
loop-premise-preserved c =
    let lt : c.loop-premise.premise-index < length c.args.premises.now = omega arith in
    rw (take_more c.args.premises.now c.loop-premise.premise-index c.premise-item.result lt, ← c.premise-item.is, c.in_ok-push.ensures.ok)
    (naming-more c.args.atoms.now c.args.table.now.edges.items c.args.steps.now c.loop-premise.steps c.certify_one.new.steps (take c.loop-premise.premise-index c.args.premises.now) c.loop-premise.places c.in_ok-certify_one.field-0 c.premise-item.result c.loop-premise.invariant c.in_ok-certify_one.ensures)
