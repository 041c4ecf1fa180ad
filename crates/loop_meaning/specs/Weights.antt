-- How much work a row is.
use Rattle.std.specs.Prelude.{ℕ, ◌+◌, min, pos, List, length, map}
use Rattle.std.specs.List.{range_with_len}
use Rattle.loop_core.specs.declared.nest.Nest.{Nest}
use Rattle.loop_core.specs.Lists.{Lists}
use Rattle.loop_core.specs.Instances.{instances}

-- of many instances at most 2 ^ 32 - 1 count
abbrev pub counted : ℕ → ℕ
counted many = min many 4294967295

-- 1 plus the number of the row's instances
abbrev pub weight : Lists → Nest → ℕ → ℕ
weight a nest row = counted (length (instances a nest (pos row))) + 1

abbrev pub row_weights : Lists → Nest → List ℕ
row_weights a nest = map (weight a nest) (range_with_len 0 a.n)
