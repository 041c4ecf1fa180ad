use Rattle.std.proofs.Common.{arith}
use Rattle.std.specs.Prelude.{◌+ℤ◌}
use Rattle.std.proofs.lemmas.Int.{ints}
use Rattle.bound_table.specs.Rows.{entry}
use Rattle.bound_ways.proofs.Emits.{refuting, fits-small}
use Rattle.bound_table.proofs.Improve.{entry-range}
use Rattle.bound_ways.proofs.way.refute.Goals as goal

pub returns : goal.returns
returns c =
    let r = entry-range c.args.table.now.rows.items c.args.edge.now.b c.args.edge.now.a c.requires.traced.table c.requires.b c.requires.a c.requires.known in
    let low = c.requires.below in
    refuting c.args.atoms.now c.args.table.now.edges.items c.args.steps.now c.emit.new.steps c.push_sum.new.steps c.push_weaken.new.steps c.args.edge.now c.in_ok-back.back c.in_ok-sum.sum (entry c.args.table.now.rows.items c.args.edge.now.b c.args.edge.now.a)
    c.in_ok-back.ensures c.in_ok-sum.ensures.steps c.in_ok-sum.ensures.number c.in_ok-push_weaken.ensures.steps (omega (arith, ints))
    (let q = c.requires.few in fits-small (c.args.edge.now.c +ℤ entry c.args.table.now.rows.items c.args.edge.now.b c.args.edge.now.a) (omega (arith, ints)) (omega (arith, ints)))
