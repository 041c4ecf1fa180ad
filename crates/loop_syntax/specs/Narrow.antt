-- Scopes whose numbers are small enough for those of a nest.
use Rattle.std.specs.Prelude.{ℕ, ◌<◌, List}
use Rattle.loop_lines.specs.declared.tree.ArrayName.{ArrayName}
use Rattle.loop_syntax.specs.Scope.{Scope, meaning_of, use_of}
use Rattle.loop_syntax.specs.Resolved.{number_of, loop_line, local_in}

-- the numbers of arrays and locals have 8 bits, and lines have 16
pub record IsNarrow (s : Scope) : Type 0 where
  pub arrays : (array : ArrayName) → number_of (use_of s array) < 256
  pub locals : (name : List ℕ) → local_in s name < 256
  pub lines : (name : List ℕ) → loop_line (meaning_of s name) < 65536
