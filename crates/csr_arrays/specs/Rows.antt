-- The cells of rows, and what they add to the arrays.
use Rattle.std.specs.Prelude.{ℕ, ℤ, pos, ◌+ℤ◌, ◌-◌, Bool, false, List, [], ◌∷◌, ◌++◌, if◌then◌else◌, ◌==◌, nat_lt, length, map, slice_index_or, slice_set, Option, Some, None}
use Rattle.std.specs.List.{filter, fold, flat_map, range_with_len}
use Rattle.std.specs.List.Sorted.{IsNonDecreasingBy}
use Rattle.wave_base.specs.Word.{wrapped, wrapped_sum}
use Rattle.csr_arrays.specs.Axes.{Triple}

-- a column and a value
abbrev pub Cell : Type 0
Cell = ℕ × ℤ

abbrev pub cell : Triple → Cell
cell t = (t.1, t.2)

-- the cells of one row, in the order of the triples
abbrev pub in_row : List Triple → ℕ → List Cell
in_row ts r = map cell (filter (λ t. t.0 == r) ts)

-- the cells of the rows below n, row by row
abbrev pub by_rows : List Triple → ℕ → List Cell
by_rows ts n = flat_map (in_row ts) (range_with_len 0 n)

-- no column falls
abbrev pub IsAscending : List Cell → Type 0
IsAscending cells = IsNonDecreasingBy (λ e. e.0) cells

-- the cells in one column
abbrev pub in_column : List Cell → ℕ → List Cell
in_column cells c = filter (λ e. e.0 == c) cells

-- the columns below n that have a cell, ascending
abbrev pub row_columns : ℕ → List Cell → List ℕ
row_columns n cells = filter (λ c. nat_lt 0 (length (in_column cells c))) (range_with_len 0 n)

-- the wrapped sum of a column's cells
abbrev pub sum_in : List Cell → ℕ → ℤ
sum_in cells c = wrapped (fold (λ z e. z +ℤ e.1) (pos 0) (in_column cells c))

-- with the last number added to
abbrev pub added : List ℤ → ℤ → List ℤ
added xs a = slice_set xs (length xs - 1) (wrapped_sum (slice_index_or xs (length xs - 1) (pos 0)) a)

abbrev pub is_last : Option ℕ → ℕ → Bool
is_last None c = false
is_last (Some l) c = c == l

-- index and values after the cells, where neighbours in one column share a place
abbrev pub run : List Cell → List ℤ → List ℤ → Option ℕ → List ℤ × List ℤ
run [] is vs last = (is, vs)
run (e ∷ es) is vs last =
    run es (if is_last last e.0 then is else is ++ pos e.0 ∷ []) (added (if is_last last e.0 then vs else vs ++ pos 0 ∷ []) e.1) (Some e.0)
