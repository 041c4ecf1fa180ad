use Rattle.std.proofs.Common.{◌≡◌}
use Rattle.done_words.specs.Seats.{view, IsOn}
use Rattle.p2p_exec.specs.Where.{IsAt}
use Rattle.p2p_exec.proofs.drive.drive.Given as goal

-- the worker stands at its seat's place
abbrev pub invariant-loop : goal.invariant-loop
invariant-loop g l =
    (goal.iterator-loop g).can_next l.iterator' × (goal.iterator-loop g).is_finite l.iterator'
    × IsOn l.seat l.board × IsAt l.work l.worker (view l.seat) × (l.worker.number ≡ l.initial.worker.number)
