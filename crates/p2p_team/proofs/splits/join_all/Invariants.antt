use Rattle.std.proofs.Common.{◌≡◌, ℕ, ◌+◌, length}
use Rattle.std.specs.Vec.Iter.{into_iter_items, into_iter_len}
use Rattle.done_words.specs.Seats.{main_view, IsMainOf}
use Rattle.p2p_team.specs.Hands.{Ends, HasMade}
use Rattle.p2p_team.proofs.Joins.{JoinedBelow}
use Rattle.p2p_team.proofs.Lists.{HoldsFrom}
use Rattle.p2p_team.proofs.splits.join_all.Given as goal

-- the hands so far were joined
abbrev pub invariant-loop-hand : goal.invariant-loop-hand
invariant-loop-hand l =
    let rest = l.hand-iterator in
    let all = length l.work.sched.workers in
    IsMainOf l.main l.board × HasMade l.work all (main_view l.main)
    × ((done : ℕ) × (done + into_iter_len rest ≡ all)
    × HoldsFrom (Ends l.board l.work) done (into_iter_items rest) (into_iter_len rest)
    × JoinedBelow done (main_view l.main))
