use Rattle.std.proofs.Common.{◌≡◌, drop, replicate, vec_len}
use Rattle.wait_sparsify.specs.Written.{written_lists}
use Rattle.wait_sparsify.proofs.numbered.task_of_each.Given as goal

abbrev pub invariant-loop-number : goal.invariant-loop-number
invariant-loop-number l =
    (written_lists l.number (drop l.number l.rows) l.tasks.items ≡ written_lists 0 l.rows (replicate l.n 0)) × (vec_len l.tasks ≡ l.n)
