use Rattle.std.proofs.Common.{◌≡◌, vec_len}
use Rattle.p2p_team.proofs.room.make_flags.Given as goal

-- a flag for each worker so far
abbrev pub invariant-loop : goal.invariant-loop
invariant-loop l = vec_len l.flags ≡ l.counter
