-- Lines above the loop, in it and after it.
use Rattle.std.specs.Prelude.{◌≡◌, ℕ, zero, suc, ◌+◌, ◌≤◌, List, [], ◌∷◌, length, Option, Some, None}
use Rattle.loop_lines.specs.declared.line.Line.{Line}
use Rattle.loop_lines.specs.declared.line.Line.TheVariants as lines
use Rattle.loop_lines.specs.Reading.{◌>>=◌}
use Rattle.loop_syntax.specs.declared.numbered.Numbered.{Numbered}
use Rattle.loop_syntax.specs.Scope.{Scope, scope_after, variables}

-- above the loop, in it with so many open blocks, or after its end
pub data Stage : Type 0 where
  Above : Stage
  Within : ℕ → Stage
  Behind : Stage

abbrev pub stage_above : Line → Option Stage
stage_above (lines.Loop name) = Some (Within 0)
stage_above (lines.For name lo hi) = None
stage_above (lines.When rel left right) = None
stage_above (lines.Set array at value) = None
stage_above (lines.Keep name value) = None
stage_above lines.End = None
stage_above _ = Some Above

abbrev pub stage_within : ℕ → Line → Option Stage
stage_within blocks (lines.For name lo hi) = Some (Within (blocks + 1))
stage_within blocks (lines.When rel left right) = Some (Within (blocks + 1))
stage_within blocks (lines.Set array at value) = Some (Within blocks)
stage_within blocks (lines.Keep name value) = Some (Within blocks)
stage_within zero lines.End = Some Behind
stage_within (suc k) lines.End = Some (Within k)
stage_within _ _ = None

abbrev pub stage_after : Stage → Line → Option Stage
stage_after Above l = stage_above l
stage_after (Within blocks) l = stage_within blocks l
stage_after Behind l = None

-- where lines lead, and none where one of them can't stand where it does
abbrev pub stage_at_end : Stage → List Numbered → Option Stage
stage_at_end stage [] = Some stage
stage_at_end stage (l ∷ ls) = stage_after stage l.line >>= λ next. stage_at_end next ls

-- a whole loop, with nothing after it
abbrev pub AreNested : Stage → List Numbered → Type 0
AreNested stage ls = stage_at_end stage ls ≡ Some Behind

-- the lines have small numbers, and pass no limit of a scope
abbrev pub AreFew : Scope → List Numbered → Type 0
AreFew s [] = Unit {0}
AreFew s (l ∷ ls) = (l.number ≤ 400) × ((scope_after s l).arrays ≤ 64) × ((scope_after s l).locals ≤ 16) × (length (variables (scope_after s l).blocks) ≤ 6) × AreFew (scope_after s l) ls
