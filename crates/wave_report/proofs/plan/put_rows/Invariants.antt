use Rattle.std.proofs.Common.{◌≡◌, ◌++◌, drop}
use Rattle.std.specs.String.{string_bytes}
use Rattle.wave_report.specs.PlanText.{rows_text}
use Rattle.wave_report.proofs.plan.put_rows.Given as goal

-- the text so far and that of the rows left are the whole text
abbrev pub invariant-loop-row : goal.invariant-loop-row
invariant-loop-row l = string_bytes l.text ++ rows_text (drop l.row-index l.rows) ≡ string_bytes l.fn.text ++ rows_text l.rows
