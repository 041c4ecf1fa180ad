-- The sequential run: all instances in order of their numbers.
use Rattle.std.specs.Prelude.{ℕ, zero, suc, ℤ, Bool, if◌then◌else◌, List, [], ◌++◌, map, Option, Some, None}
use Rattle.wave_base.specs.declared.types.Cell.{Cell}
use Rattle.core_cells.specs.Cells.{at_cell, put}
use Rattle.core_law.specs.Works.{Instance, Work}
use Rattle.core_law.specs.Numbers.{instance_at, opens}

-- the words, and what was read in the current row, in order
pub record Run : Type 0 where
  pub cells : List (List ℤ)
  pub registers : List ℤ

-- what begins a row keeps nothing of the row before
abbrev pub kept : {A : Type 0} → Bool → List A → List A
kept begins registers = if begins then [] else registers

abbrev pub put_at : List (List ℤ) → Option Cell → ℤ → List (List ℤ)
put_at x None word = x
put_at x (Some cell) word = put x cell word

-- what was read in the row once the instance has read its cells
abbrev pub reads_so_far : Instance → Bool → Run → List ℤ
reads_so_far s begins r = kept begins r.registers ++ map (at_cell r.cells) s.reads

abbrev pub applied : Instance → Bool → Run → Run
applied s begins r = record { cells = put_at r.cells s.target (s.value (reads_so_far s begins r)); registers = reads_so_far s begins r }

-- after the first so many instances
abbrev pub after : Work → ℕ → Run
after w zero = record { cells = w.start; registers = [] }
after w (suc g) = applied (instance_at w g) (opens w g) (after w g)

-- the word of a cell just before the instance g
abbrev pub word_before : Work → ℕ → Cell → ℤ
word_before w g cell = at_cell (after w g).cells cell

-- what was read in its row before the instance g, and up to and with it
abbrev pub read_before : Work → ℕ → List ℤ
read_before w g = kept (opens w g) (after w g).registers

abbrev pub read_with : Work → ℕ → List ℤ
read_with w g = reads_so_far (instance_at w g) (opens w g) (after w g)
