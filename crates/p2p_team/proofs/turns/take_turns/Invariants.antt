use Rattle.std.proofs.Common.{◌≡◌, length}
use Rattle.p2p_team.specs.Hands.{EachStarted}
use Rattle.p2p_team.proofs.turns.take_turns.Given as goal

-- each worker stands somewhere in its script
abbrev pub invariant-loop : goal.invariant-loop
invariant-loop g l =
    (goal.iterator-loop g).can_next l.iterator' × (goal.iterator-loop g).is_finite l.iterator'
    × (length l.started ≡ length l.initial.started) × EachStarted l.board l.work l.started
