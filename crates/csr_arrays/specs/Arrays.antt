-- The arrays of a matrix: its stored places in order, row by row.
use Rattle.std.specs.Prelude.{◌≡◌, ℕ, ℤ, pos, ◌+ℤ◌, ◌+◌, Bool, List, ◌==◌, ◌&&◌, nat_lt, nat_le, length, map}
use Rattle.std.specs.List.{filter, fold, flat_map, range_with_len, position_or_len}
use Rattle.wave_base.specs.Word.{wrapped}
use Rattle.csr_arrays.specs.Axes.{Triple}
use Rattle.csr_arrays.specs.declared.compressed.Compressed.{Compressed}

-- the triples at a place
abbrev pub at_place : List Triple → ℕ → ℕ → List Triple
at_place ts r c = filter (λ t. t.0 == r && t.1 == c) ts

-- a place is stored where at least one triple is
abbrev pub is_stored : List Triple → ℕ → ℕ → Bool
is_stored ts r c = nat_lt 0 (length (at_place ts r c))

-- the wrapped sum of the values at a place
abbrev pub value_at : List Triple → ℕ → ℕ → ℤ
value_at ts r c = wrapped (fold (λ z t. z +ℤ t.2) (pos 0) (at_place ts r c))

-- the columns of a row's stored places, ascending
abbrev pub columns : ℕ → List Triple → ℕ → List ℕ
columns n ts r = filter (is_stored ts r) (range_with_len 0 n)

-- the columns of the stored places of the rows below i, row by row, and their values
abbrev pub index_below : ℕ → List Triple → ℕ → List ℤ
index_below n ts i = flat_map (λ r. map pos (columns n ts r)) (range_with_len 0 i)

abbrev pub values_below : ℕ → List Triple → ℕ → List ℤ
values_below n ts i = flat_map (λ r. map (value_at ts r) (columns n ts r)) (range_with_len 0 i)

-- how many stored places the rows below i have
abbrev pub pointer : ℕ → List Triple → ℕ → ℕ
pointer n ts i = length (index_below n ts i)

-- the first place of row i whose column is at least i, or the first place of the next row
abbrev pub diagonal : ℕ → List Triple → ℕ → ℕ
diagonal n ts i = pointer n ts i + position_or_len (λ c. nat_le i c) (columns n ts i)

-- the arrays of the first k of n rows
pub record FirstRows (n k : ℕ) (ts : List Triple) (ptr index diag val : List ℤ) : Type 0 where
  pub ptr_is : ptr ≡ map (λ i. pos (pointer n ts i)) (range_with_len 0 (k + 1))
  pub index_is : index ≡ index_below n ts k
  pub diag_is : diag ≡ map (λ i. pos (diagonal n ts i)) (range_with_len 0 k)
  pub val_is : val ≡ values_below n ts k

-- all rows
abbrev pub AreArrays : ℕ → List Triple → Compressed → Type 0
AreArrays n ts m = FirstRows n n ts m.ptr m.index m.diag m.val
