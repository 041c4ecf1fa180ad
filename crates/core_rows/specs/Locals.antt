-- The rows run in order. To apply a row is to set all locals to 0 and then apply its instances in order.
use Rattle.std.specs.Prelude.{ℕ, ℤ, pos, List, [], ◌∷◌, map, take, replicate, slice_index_or, slice_set}
use Rattle.core_cells.specs.Cells.{at_cell, put}
use Rattle.core_rows.specs.Deeds.{Effect, Sets, Keeps, Deed, RowWork}

-- the words, and the locals of the current row
pub record RowState : Type 0 where
  pub cells : List (List ℤ)
  pub locals : List ℤ

abbrev pub set_by : Effect → List (List ℤ) → ℤ → List (List ℤ)
set_by (Sets cell) x word = put x cell word
set_by (Keeps local) x word = x

abbrev pub kept_by : Effect → List ℤ → ℤ → List ℤ
kept_by (Sets cell) locals word = locals
kept_by (Keeps local) locals word = slice_set locals local word

-- the value of an instance
abbrev pub value_in : Deed → RowState → ℤ
value_in d o = d.value o.locals (map (at_cell o.cells) d.reads)

abbrev pub after_deed : Deed → RowState → RowState
after_deed d o = record { cells = set_by d.effect o.cells (value_in d o); locals = kept_by d.effect o.locals (value_in d o) }

abbrev pub after_deeds : List Deed → RowState → RowState
after_deeds [] o = o
after_deeds (d ∷ more) o = after_deeds more (after_deed d o)

abbrev pub zeros : ℕ → List ℤ
zeros n = replicate n (pos 0)

abbrev pub fresh : ℕ → List (List ℤ) → RowState
fresh n x = record { cells = x; locals = zeros n }

-- the words after these rows
abbrev pub after_rows : ℕ → List (List Deed) → List (List ℤ) → List (List ℤ)
after_rows n [] x = x
after_rows n (r ∷ more) x = after_rows n more (after_deeds r (fresh n x)).cells

abbrev pub row_of : RowWork → ℕ → List Deed
row_of r i = slice_index_or r.rows i []

-- words and locals just before instance j of row i
abbrev pub before : RowWork → ℕ → ℕ → RowState
before r i j = after_deeds (take j (row_of r i)) (fresh r.locals (after_rows r.locals (take i r.rows) r.start))
