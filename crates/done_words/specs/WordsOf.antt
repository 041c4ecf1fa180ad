-- The words of a board: the done counts, and then the cells of the arrays that the nest writes.
use Rattle.std.specs.Prelude.{◌≡◌, ℕ, zero, suc, ℤ, ◌+◌, ◌<◌, ◌++◌, [], ◌∷◌, List, map, length, slice_index, slice_set, if◌then◌else◌}
use Rattle.std.specs.Int.{w64, cast_unsigned, cast_signed}
use Rattle.wave_base.specs.declared.types.Cell.{Cell}
use Rattle.loop_core.specs.declared.nest.Nest.{Nest}
use Rattle.loop_core.specs.Shape.{is_target}
use Rattle.core_cells.specs.Cells.{at_cell, put}
use Rattle.core_words.specs.WordsOf.{list_of, words_of, offset, word_place}
use Rattle.core_law.specs.Machine.{State, opening}
use Rattle.core_machine.specs.declared.work.Work.{Work}
use Rattle.core_machine.specs.FitWork.{plain}
use Rattle.done_words.specs.declared.layout.Span.{Span}

-- a value modulo 2 ^ 64, and the value that a word holds
abbrev pub word_of : ℤ → ℕ
word_of z = cast_unsigned w64 z

abbrev pub value_of : ℕ → ℤ
value_of n = cast_signed w64 n

-- the numbers of the arrays below k that the nest writes, in ascending order
abbrev pub written_below : Nest → ℕ → List ℕ
written_below nest zero = []
written_below nest (suc k) = if is_target nest (record { 0 = k }) then written_below nest k ++ k ∷ [] else written_below nest k

-- those of all its arrays, which are at most 64
unfoldable pub written : Nest → List ℕ
written nest = written_below nest 64

abbrev pub words_in : Work → State → List ℕ
words_in w c = c.counts ++ map word_of (words_of (written w.nest) c.cells)

abbrev pub opening_words : Work → List ℕ
opening_words w = words_in w (opening (plain w))

-- the number of a cell's word
abbrev pub word_number : Work → Cell → ℕ
word_number w cell = length w.sched.workers + word_place (written w.nest) w.values cell

-- the words of an array: none where the nest doesn't write it
abbrev pub own_list : Work → ℕ → List ℤ
own_list w k = if is_target w.nest (record { 0 = k }) then list_of w.values k else []

-- where they begin, and how many there are
abbrev pub span_from : Work → ℕ → ℕ → Span
span_from w first k = if is_target w.nest (record { 0 = k }) then record { first = first; size = length (list_of w.values k) } else record { first = 0; size = 0 }

abbrev pub span : Work → ℕ → Span
span w k = span_from w (length w.sched.workers + offset (written w.nest) w.values k) k

abbrev pub spans_below : Work → ℕ → List Span
spans_below w zero = []
spans_below w (suc k) = spans_below w k ++ span w k ∷ []

unfoldable pub spans_of : Work → List Span
spans_of w = spans_below w 64

-- a cell's word holds its value, and a write to the cell is a write to its word
pub record HasWord (w : Work) (c : State) (cell : Cell) : Type 0 where
  pub inside : word_number w cell < length (words_in w c)
  pub word : slice_index (words_in w c) (word_number w cell) ≡ word_of (at_cell c.cells cell)
  pub set : (v : ℤ) → slice_set (words_in w c) (word_number w cell) (word_of v) ≡ c.counts ++ map word_of (words_of (written w.nest) (put c.cells cell v))
