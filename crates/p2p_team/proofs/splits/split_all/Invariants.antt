use Rattle.std.proofs.Common.{◌≡◌, ◌+◌, ◌≤◌, vec_len, vec_capacity}
use Rattle.std.specs.Vec.Iter.{into_iter_items, into_iter_len}
use Rattle.done_words.specs.Seats.{main_view, IsMainOf}
use Rattle.done_words.specs.Views.{begun}
use Rattle.p2p_exec.specs.Where.{IsAt}
use Rattle.p2p_team.specs.Hands.{GivesBack}
use Rattle.p2p_team.proofs.Joins.{lead}
use Rattle.p2p_team.proofs.Lists.{HoldsFrom, HoldsBelow}
use Rattle.p2p_team.proofs.splits.split_all.Given as goal

-- the workers so far have their seats, and no other was made
abbrev pub invariant-loop-worker : goal.invariant-loop-worker
invariant-loop-worker l =
    let done = vec_len l.hands in
    let rest = l.worker-iterator in
    let all = into_iter_len l.initial.worker-iterator in
    (done + into_iter_len rest ≡ all)
    × HoldsFrom (λ k worker. IsAt l.work worker (begun l.work k)) done (into_iter_items rest) (into_iter_len rest)
    × HoldsBelow (GivesBack l.board l.work) l.hands.items done
    × (all ≤ vec_capacity l.hands)
    × IsMainOf l.main l.board
    × (main_view l.main ≡ lead l.work done)
