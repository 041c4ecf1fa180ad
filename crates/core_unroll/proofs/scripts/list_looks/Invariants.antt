use Rattle.std.proofs.Common.{◌≡◌, ◌++◌, map, take}
use Rattle.core_unroll.specs.Plans.{look_of}
use Rattle.core_unroll.proofs.scripts.list_looks.Given as goal

abbrev pub invariant-loop-wait : goal.invariant-loop-wait
invariant-loop-wait l = l.actions.items ≡ l.initial.actions.items ++ map look_of (take l.wait-index l.waits)
