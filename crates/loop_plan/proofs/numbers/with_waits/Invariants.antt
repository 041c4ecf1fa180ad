use Rattle.std.proofs.Common.{◌≡◌, ◌+◌, drop}
use Rattle.loop_plan.specs.Numbers.{waits_of}
use Rattle.loop_plan.proofs.numbers.with_waits.Given as goal

-- the waits so far and those of the tasks left are the whole number
abbrev pub invariant-loop-task : goal.invariant-loop-task
invariant-loop-task l = l.waits + waits_of (drop l.task-index l.tasks) ≡ l.fn.before + waits_of l.tasks
