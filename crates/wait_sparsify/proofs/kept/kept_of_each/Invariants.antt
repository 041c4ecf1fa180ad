use Rattle.std.proofs.Common.{◌≡◌, ◌++◌, drop, length, replicate, vec_len}
use Rattle.wait_sparsify.specs.Survivors.{kept_lists, nexts}
use Rattle.wait_sparsify.proofs.kept.kept_of_each.Given as goal

abbrev pub invariant-loop-task : goal.invariant-loop-task
invariant-loop-task l =
    record {
      kept : l.kept ++ kept_lists (nexts l.cross) l.owners l.task l.earlier.items l.among.items (drop l.task l.cross) ≡ kept_lists (nexts l.cross) l.owners 0 (replicate (length l.cross) 0) (replicate (length l.cross) 0) l.cross;
      earlier : vec_len l.earlier ≡ length l.cross;
      among : vec_len l.among ≡ length l.cross;
    }
