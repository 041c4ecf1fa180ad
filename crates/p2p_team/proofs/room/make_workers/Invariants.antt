use Rattle.std.proofs.Common.{◌≡◌, ℕ, ◌<◌, slice_index_or, vec_len}
use Rattle.done_words.specs.Views.{begun}
use Rattle.p2p_exec.specs.Where.{IsAt}
use Rattle.p2p_team.proofs.room.make_workers.Given as goal

-- the workers so far stand at their starts
abbrev pub invariant-loop-number : goal.invariant-loop-number
invariant-loop-number l =
    (vec_len l.workers ≡ l.number) × ((k : ℕ) (d : _) → k < l.number → IsAt l.work (slice_index_or l.workers.items k d) (begun l.work k))
