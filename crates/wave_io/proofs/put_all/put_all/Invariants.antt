use Rattle.std.proofs.Common.{◌≡◌, ◌≤◌, ℕ, List, ◌++◌, length}
use Rattle.wave_io.specs.Written.{grown}
use Rattle.wave_io.proofs.put_all.put_all.Given as goal

-- the bytes that were taken stand before those that are left
abbrev pub invariant-loop-rest : goal.invariant-loop-rest
invariant-loop-rest g l =
    (part : List ℕ) × (l.fn.bytes ≡ part ++ l.rest)
    × (g.S.Sink.written l.sink ≡ grown (g.S.Sink.written l.initial.sink) part)
    × (g.S.Sink.faults l.initial.sink ≤ g.S.Sink.faults l.sink)

abbrev pub decreases-loop-rest : goal.decreases-loop-rest
decreases-loop-rest g l = length l.rest
