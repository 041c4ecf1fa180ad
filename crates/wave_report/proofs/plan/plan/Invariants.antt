use Rattle.std.proofs.Common.{◌≡◌, ◌++◌, drop}
use Rattle.std.specs.String.{string_bytes}
use Rattle.wave_report.specs.PlanText.{plan_text, workers_text}
use Rattle.wave_report.proofs.plan.plan.Given as goal

-- the text so far and that of the workers left are the whole text
abbrev pub invariant-loop-worker : goal.invariant-loop-worker
invariant-loop-worker l = string_bytes l.text ++ workers_text l.worker (drop l.worker l.sched.workers) ≡ plan_text l.chain l.sched
