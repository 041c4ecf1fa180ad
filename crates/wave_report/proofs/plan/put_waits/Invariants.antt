use Rattle.std.proofs.Common.{◌≡◌, ◌++◌, drop}
use Rattle.std.specs.String.{string_bytes}
use Rattle.wave_report.specs.PlanText.{waits_text}
use Rattle.wave_report.proofs.plan.put_waits.Given as goal

-- the text so far and that of the waits left are the whole text
abbrev pub invariant-loop-wait : goal.invariant-loop-wait
invariant-loop-wait l = string_bytes l.text ++ waits_text (drop l.wait-index l.waits) ≡ string_bytes l.fn.text ++ waits_text l.waits
