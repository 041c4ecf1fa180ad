use Rattle.std.proofs.Common.{drop, ◌+◌}
use Rattle.std.specs.List.{filter}
use Rattle.loop_syntax.specs.Scope.{empty}
use Rattle.loop_syntax.specs.Counts.{is_within, first_passed}
use Rattle.loop_syntax.proofs.NumberedLaws.{next_here}
use Rattle.loop_syntax.proofs.FewLaws.{Stepped, passes, kept_on, goes_on}
use Rattle.loop_syntax.proofs.counts.first_passed.Goals as goal

pub returns-in-Some : goal.returns-in-Some
returns-in-Some c =
    let here = next_here c.args.lines.now c.loop-next.next-index c.next-item.result c.loop-next-test.true c.next-item.is in
    let step : Stepped c.args.flags.now c.loop-next.scope c.loop-next.references c.next-item.result c.step.new.scope c.step.new.references c.in_ok-kind.field-0 = record { limited = c.in_ok-kind.ensures.limit; moved = c.in_ok-kind.ensures.scope; counts = c.in_ok-kind.ensures.counted } in
    λ written are. passes c.args.flags.now written c.loop-next.scope c.step.new.scope c.loop-next.references c.step.new.references (drop c.loop-next.next-index c.args.lines.now) (drop (c.loop-next.next-index + 1) c.args.lines.now) c.next-item.result c.in_ok-kind.field-0 c.in-Some.kind (first_passed written empty 0 (filter is_within c.args.lines.now)) are here c.if-next-gt400.false step c.in-Some.is (c.loop-next.invariant.same written are)

pub loop-next-preserved : goal.loop-next-preserved
loop-next-preserved c =
    let here = next_here c.args.lines.now c.loop-next.next-index c.next-item.result c.loop-next-test.true c.next-item.is in
    let step : Stepped c.args.flags.now c.loop-next.scope c.loop-next.references c.next-item.result c.step.new.scope c.step.new.references c.in_ok-kind.field-0 = record { limited = c.in_ok-kind.ensures.limit; moved = c.in_ok-kind.ensures.scope; counts = c.in_ok-kind.ensures.counted } in
    let kept = kept_on c.args.flags.now c.loop-next.scope c.step.new.scope c.loop-next.references c.step.new.references c.next-item.result c.in_ok-kind.field-0 step c.in-None.is in
    record {
      same = λ written are. goes_on c.args.flags.now written c.loop-next.scope c.step.new.scope c.loop-next.references c.step.new.references (drop c.loop-next.next-index c.args.lines.now) (drop (c.loop-next.next-index + 1) c.args.lines.now) c.next-item.result c.in_ok-kind.field-0 (first_passed written empty 0 (filter is_within c.args.lines.now)) are here c.if-next-gt400.false step c.in-None.is (c.loop-next.invariant.same written are);
      arrays = kept.arrays;
      locals = kept.locals;
      few = kept.references;
    }
