-- Which arrays a text writes, as a flag for each array number.
use Rattle.std.specs.Prelude.{◌≡◌, ℕ, Bool, false, slice_index_or, List, length}
use Rattle.std.specs.List.{filter}
use Rattle.loop_lines.specs.declared.tree.ArrayName.{ArrayName}
use Rattle.loop_syntax.specs.Scope.{Scope, use_of}
use Rattle.loop_syntax.specs.Resolved.{number_of}
use Rattle.loop_syntax.specs.Counts.{is_written}

-- a number past the last flag isn't flagged
abbrev pub is_flagged : List Bool → ℕ → Bool
is_flagged flags number = slice_index_or flags number false

-- exactly the numbers in the list are flagged
abbrev pub AreFlagged : List Bool → List ℕ → Type 0
AreFlagged flags written = (number : ℕ) → is_flagged flags number ≡ is_written written number

-- how many of the arrays are flagged
abbrev pub flagged : List Bool → Scope → List ArrayName → ℕ
flagged flags s arrays = length (filter (λ array. is_flagged flags (number_of (use_of s array))) arrays)
