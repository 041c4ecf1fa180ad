use Rattle.std.proofs.Common.{IsNone, rules}
use Rattle.done_words.specs.Seats.{view}
use Rattle.p2p_exec.proofs.Lookings.{may_next, looks_more, looks_all, stops}
use Rattle.p2p_exec.proofs.looks.Miss.find.Goals as goal

pub look_at-requires-clause-next : goal.look_at-requires-clause-next
look_at-requires-clause-next c = may_next (view c.args.seat.now) (view c.loop-place.seat) c.args.waits.now c.args.from c.loop-place.place c.loop-place-test.true c.requires.next c.loop-place.invariant.1

pub returns-in-Some-clause-missed : goal.returns-in-Some-clause-missed
returns-in-Some-clause-missed c =
    stops (view c.args.seat.now) (view c.loop-place.seat) (view c.look_at.new.seat) c.args.waits.now c.args.from c.loop-place.place c.in-Some.seen c.loop-place-test.true c.loop-place.invariant.1 c.in-Some.ensures.missed

pub loop-place-preserved : goal.loop-place-preserved
loop-place-preserved c =
    let none : IsNone c.look_at.result = search rules in
    (c.look_at.ensures.own, looks_more (view c.args.seat.now) (view c.loop-place.seat) (view c.look_at.new.seat) c.args.waits.now c.args.from c.loop-place.place c.loop-place-test.true c.loop-place.invariant.1 (c.look_at.ensures.passed none))

pub returns-clause-passed : goal.returns-clause-passed
returns-clause-passed c none = looks_all (view c.args.seat.now) (view c.loop-place.seat) c.args.waits.now c.args.from c.loop-place.place c.loop-place-test.false c.loop-place.invariant.1
