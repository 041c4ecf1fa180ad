use Rattle.std.proofs.Common.{rules, ◌≡◌, ◌<◌, ℕ, [], length, true, false}
use Rattle.std.specs.Prelude.{not}
use Rattle.bound_close.specs.Closure.{Found, Closed, IsClosure}
use Rattle.bound_close.specs.Waits.{IsTending}
use Rattle.bound_table.specs.Rows.{unit_bound}
use Rattle.bound_close.specs.Workings.{bounds, Kept, Refuted}
use Rattle.bound_close.proofs.Closes.{kept-first, from_not_false, from_not_true, grown-is}
use Rattle.bound_close.proofs.Orders.{same-empty, same-itself}
use Rattle.bound_close.proofs.closure.close.Goals as goal

pub run-requires-clause-base : goal.run-requires-clause-base
run-requires-clause-base c = λ d i. rw (c.in_ok-places.ensures, c.as_slice.ensures, c.in_ok-universe.ensures) (c.requires.base d i)

pub run-requires-clause-rules : goal.run-requires-clause-rules
run-requires-clause-rules c = λ r i. rw (c.in_ok-places.ensures, c.as_slice.ensures, c.in_ok-universe.ensures) (c.requires.rules r i)

pub returns-clause-closure : goal.returns-clause-closure
returns-clause-closure c =
    let each : (x y : ℕ) → x < length c.in_ok-places.places → y < length c.in_ok-places.places → bounds c.in_ok-engine.engine.workings x y ≡ unit_bound x y = c.in_ok-engine.ensures.each in
    let kept : Kept c.in_ok-places.places [] c.args.rules.now c.in_ok-engine.engine.workings = kept-first c.in_ok-places.places [] c.args.rules.now c.in_ok-engine.engine.workings each c.in_ok-engine.ensures.edges c.in_ok-engine.ensures.steps in
    let closed : c.in_ok-fine.fine ≡ true → Kept c.in_ok-places.places [] c.args.rules.now c.in_ok-engine.engine.workings → Closed c.in_ok-places.places c.args.base.now c.args.rules.now c.run.new.self.workings = c.in_ok-fine.ensures.closed in
    let tending : c.in_ok-fine.fine ≡ true → IsTending c.in_ok-places.places c.args.rules.now c.run.new.self = c.in_ok-fine.ensures.tending in
    let refuted : c.in_ok-fine.fine ≡ false → Kept c.in_ok-places.places [] c.args.rules.now c.in_ok-engine.engine.workings → Refuted c.in_ok-places.places c.args.base.now c.args.rules.now c.run.new.self.workings.steps = c.in_ok-fine.ensures.refuted in
    record {
      found = λ e. closed (from_not_false c.in_ok-fine.fine e) kept;
      waits = λ e. tending (from_not_false c.in_ok-fine.fine e);
      given = search rules;
      refuted = λ e. refuted (from_not_true c.in_ok-fine.fine e) kept;
    }

pub returns-clause-grown : goal.returns-clause-grown
returns-clause-grown c = λ j g e.
    let k : Found = record { atoms = c.in_ok-places.places; engine = c.run.new.self; given = length c.args.base.now; refuted = not c.in_ok-fine.fine } in
    let h : IsClosure k c.args.base.now c.args.rules.now = returns-clause-closure c in
    (grown-is g, same-empty j k c.args.base.now c.args.base.now c.args.rules.now e (same-itself c.args.base.now) (grown-is g) h)
