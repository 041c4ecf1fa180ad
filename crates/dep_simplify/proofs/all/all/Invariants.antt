use Rattle.std.proofs.Common.{◌-◌, ◌≤◌, length}
use Rattle.dep_simplify.specs.Ready.{AreSoFar}
use Rattle.dep_simplify.proofs.all.all.Given as goal

-- the verdicts so far are right
abbrev pub invariant-loop-alloc : goal.invariant-loop-alloc
invariant-loop-alloc l = record {
  few : length l.verdicts ≤ length l.relations;
  so_far : AreSoFar l.nest l.verdicts;
}

abbrev pub decreases-loop-alloc : goal.decreases-loop-alloc
decreases-loop-alloc l = length l.relations - length l.verdicts
