use Rattle.std.proofs.Common.{drop, ◌+◌}
use Rattle.loop_syntax.proofs.NarrowLaws.{narrow}
use Rattle.loop_syntax.proofs.NumberedLaws.{next_here}
use Rattle.loop_syntax.proofs.BuildLaws.{built_more}
use Rattle.loop_syntax.proofs.build.build.Goals as goal

pub step-requires-clause-narrow : goal.step-requires-clause-narrow
step-requires-clause-narrow c = narrow c.loop-next.scope c.loop-next.invariant.kept

pub loop-next-preserved : goal.loop-next-preserved
loop-next-preserved c =
    let here = next_here c.args.lines.now c.loop-next.next-index c.next-item.result c.loop-next-test.true c.next-item.is in
    built_more c.args.lines.now c.loop-next.scope c.step.new.scope c.loop-next.so_far c.in_ok-so_far.so_far (drop c.loop-next.next-index c.args.lines.now) (drop (c.loop-next.next-index + 1) c.args.lines.now) c.next-item.result here c.loop-next.invariant c.in_ok-so_far.ensures.grows c.in_ok-so_far.ensures.scope
