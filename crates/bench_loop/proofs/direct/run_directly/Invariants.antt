use Rattle.std.proofs.Common.{◌≡◌}
use Rattle.loop_core.specs.Sequence.{after_rows}
use Rattle.bench_loop.proofs.direct.run_directly.Given as goal

-- the rows so far were run
abbrev pub invariant-loop-row : goal.invariant-loop-row
invariant-loop-row l = l.running.lists ≡ after_rows l.nest l.arrays l.fn.values l.row
