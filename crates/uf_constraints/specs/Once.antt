-- Lists of atoms without repeats.
use Rattle.std.specs.Prelude.{◌≡◌, ℕ, ◌<◌, List, length, slice_index_or}
use Rattle.loop_core.specs.declared.nest.Atom.{Atom}
use Rattle.loop_core.specs.declared.nest.Atom.TheVariants.{Zero}

-- no atom stands at two places
abbrev pub IsOnce : List Atom → Type 0
IsOnce atoms = (i j : ℕ) → i < j → j < length atoms → slice_index_or atoms i Zero ≡ slice_index_or atoms j Zero → ⊥
