-- The first and the last line of a demo.
use Rattle.std.specs.Prelude.{ℕ, ℤ, List, ◌++◌, codes, decimal}
use Rattle.std.specs.Fmt.{signed_decimal}
use Rattle.wave_report.specs.Line.{line}

-- `demo KIND NUMBER workers W`
abbrev pub head_text : List ℕ → ℕ → ℕ → List ℕ
head_text kind number workers =
    line (codes "demo " ++ kind ++ codes " " ++ decimal number ++ codes " workers " ++ decimal workers)

-- `sum x S`
abbrev pub sum_text : ℤ → List ℕ
sum_text sum = line (codes "sum x " ++ signed_decimal sum)
