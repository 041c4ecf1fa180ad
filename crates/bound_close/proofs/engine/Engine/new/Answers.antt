use Rattle.std.proofs.Common.{rules, ◌≡◌, replicate, false}
use Rattle.bound_close.proofs.Passing.{tended-new}
use Rattle.bound_close.proofs.engine.Engine.new.Goals as goal

pub returns-clause-tended : goal.returns-clause-tended
returns-clause-tended c = λ list e.
    let fired : c.in_ok-fired.fired.items ≡ replicate c.args.rules false = search rules in
    tended-new c.args.atoms.now list record { workings = c.in_ok-workings.workings; fired = c.in_ok-fired.fired; queues = c.in_ok-queues.queues } c.len.result c.args.rules c.in_ok-workings.ensures.fine c.len.ensures e fired c.in_ok-queues.ensures
