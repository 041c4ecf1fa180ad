use Rattle.std.proofs.Common.{◌≡◌, ◌+◌, ◌≤◌, vec_len, vec_capacity}
use Rattle.std.specs.Vec.Iter.{into_iter_items, into_iter_len}
use Rattle.p2p_team.specs.Hands.{Ends, IsStarted, IsEnded}
use Rattle.p2p_team.proofs.Lists.{HoldsFrom, HoldsBelow}
use Rattle.p2p_team.proofs.ends.end_all.Given as goal

-- the hands so far are at their ends
abbrev pub invariant-loop-one : goal.invariant-loop-one
invariant-loop-one g l =
    let done = vec_len l.hands in
    let rest = l.one-iterator in
    let all = into_iter_len l.initial.one-iterator in
    (done + into_iter_len rest ≡ all)
    × HoldsFrom (λ k one. IsStarted l.board l.work k one × IsEnded one) done (into_iter_items rest) (into_iter_len rest)
    × HoldsBelow (Ends l.board l.work) l.hands.items done
    × (all ≤ vec_capacity l.hands)
