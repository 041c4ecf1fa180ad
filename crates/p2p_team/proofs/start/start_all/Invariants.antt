use Rattle.std.proofs.Common.{◌≡◌, ◌+◌, ◌≤◌, vec_len, vec_capacity}
use Rattle.std.specs.Vec.Iter.{into_iter_items, into_iter_len}
use Rattle.p2p_team.specs.Hands.{GivesBack, IsStarted}
use Rattle.p2p_team.proofs.Lists.{HoldsFrom, HoldsBelow}
use Rattle.p2p_team.proofs.start.start_all.Given as goal

-- the hands so far were started
abbrev pub invariant-loop-hand : goal.invariant-loop-hand
invariant-loop-hand g l =
    let done = vec_len l.started in
    let rest = l.hand-iterator in
    let all = into_iter_len l.initial.hand-iterator in
    (done + into_iter_len rest ≡ all)
    × HoldsFrom (GivesBack l.board l.work) done (into_iter_items rest) (into_iter_len rest)
    × HoldsBelow (IsStarted l.board l.work) l.started.items done
    × (all ≤ vec_capacity l.started)
