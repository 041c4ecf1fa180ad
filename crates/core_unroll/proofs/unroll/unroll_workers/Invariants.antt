use Rattle.std.proofs.Common.{ℤ, List, [], ◌≤◌, length}
use Rattle.core_unroll.specs.Advances.{AreUnrolled}
use Rattle.core_unroll.proofs.unroll.unroll_workers.Given as goal

-- the workers so far were unrolled
abbrev pub invariant-loop-list : goal.invariant-loop-list
invariant-loop-list l = (l.list-index ≤ length l.tasks)
    × ((x : List (List ℤ)) → AreUnrolled l.nest l.arrays x l.tasks l.initial.unrolling 0 [] []
    → AreUnrolled l.nest l.arrays x l.tasks l.unrolling l.list-index l.workers.scripts.items l.workers.hows.items)
