use Rattle.std.proofs.Common.{◌≡◌, ◌++◌, drop}
use Rattle.std.specs.String.{string_bytes}
use Rattle.std.specs.List.{flat_map}
use Rattle.std.specs.Fmt.{signed_decimal}
use Rattle.wave_report.specs.Line.{line}
use Rattle.wave_report.proofs.arrays.put_values.Given as goal

-- the text so far and that of the values left are the whole text
abbrev pub invariant-loop-value : goal.invariant-loop-value
invariant-loop-value l =
    string_bytes l.text ++ flat_map (λ value. line (signed_decimal value)) (drop l.value-index l.values)
    ≡ string_bytes l.fn.text ++ flat_map (λ value. line (signed_decimal value)) l.values
