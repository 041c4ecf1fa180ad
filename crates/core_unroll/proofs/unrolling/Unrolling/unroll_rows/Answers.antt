use Rattle.core_nest.specs.NestLaws.{plain_work}
use Rattle.core_unroll.proofs.Advanced.{advances_none}
use Rattle.core_unroll.proofs.Going.{rows_more, rows_all}
use Rattle.core_unroll.proofs.unrolling.Unrolling.unroll_rows.Goals as goal

pub loop-row-init : goal.loop-row-init
loop-row-init c = λ x workers ready below. advances_none (plain_work c.args.nest.now c.args.arrays.now x workers) c.args.self.now

pub loop-row-preserved : goal.loop-row-preserved
loop-row-preserved c = λ x workers ready below.
    rows_more c.args.nest.now c.args.arrays.now c.args.rows.now c.loop-row.row-index _ c.args.self.now c.loop-row.self c.unroll_row.new.self x workers c.loop-row-test.true ready below
    (c.loop-row.invariant x workers ready below) c.in_ok-unroll_row.ensures

pub returns : goal.returns
returns c = λ x workers ready below.
    rows_all (plain_work c.args.nest.now c.args.arrays.now x workers) c.args.self.now c.loop-row.self c.args.rows.now c.loop-row.row-index c.loop-row-test.false (c.loop-row.invariant x workers ready below)
