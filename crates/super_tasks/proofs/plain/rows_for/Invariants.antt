use Rattle.std.proofs.Common.{◌≡◌}
use Rattle.super_tasks.proofs.Searching.{share_so_far}
use Rattle.super_tasks.proofs.plain.rows_for.Given as goal

abbrev pub invariant-loop-place : goal.invariant-loop-place
invariant-loop-place l = l.mine.items ≡ share_so_far l.weights l.workers l.rows l.worker l.place
