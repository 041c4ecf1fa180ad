use Rattle.std.proofs.Common.{◌≡◌, ◌++◌, drop}
use Rattle.std.specs.List.{flat_map}
use Rattle.std.specs.String.{string_bytes}
use Rattle.wave_report.specs.PlanText.{task_text}
use Rattle.wave_report.proofs.plan.put_tasks.Given as goal

-- the text so far and that of the tasks left are the whole text
abbrev pub invariant-loop-task : goal.invariant-loop-task
invariant-loop-task l = string_bytes l.text ++ flat_map task_text (drop l.task-index l.tasks) ≡ string_bytes l.fn.text ++ flat_map task_text l.tasks
