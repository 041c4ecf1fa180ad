-- The printed counts of a replay.
use Rattle.std.specs.Prelude.{ℕ, List, ◌++◌, codes, decimal}
use Rattle.wave_report.specs.Line.{line}

-- `looks A passed P`
abbrev pub looks_text : ℕ → ℕ → List ℕ
looks_text looks passed = line (codes "looks " ++ decimal looks ++ codes " passed " ++ decimal passed)
