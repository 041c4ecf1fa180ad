use Rattle.std.proofs.Common.{◌≡◌, ℕ, ◌<◌, length, slice_index_or}
use Rattle.std.specs.Prelude.{IsTrue}
use Rattle.p2p_team.specs.Hands.{IsEnded, EachStarted}
use Rattle.p2p_team.proofs.turns.one_turn.Given as goal

-- those that had their turn are at their ends, if the turn says so
abbrev pub invariant-loop-at : goal.invariant-loop-at
invariant-loop-at g l =
    (length l.started ≡ length l.initial.started) × EachStarted l.board l.work l.started
    × (IsTrue l.turn.ended → (k : ℕ) (d : _) → k < l.at → IsEnded (slice_index_or l.started k d))
