-- A right side of a lower triangle, made so that the answer is 1, 2, 3 and so on.
use Rattle.std.specs.Prelude.{ℕ, ℤ, pos, negsuc, ◌+ℤ◌, ◌*ℤ◌, ◌+◌, ◌-◌, List, if◌then◌else◌, int_le, length, map, slice_index_or}
use Rattle.std.specs.List.{fold, range_with_len}
use Rattle.wave_base.specs.Word.{wrapped}
use Rattle.csr_arrays.specs.declared.compressed.Compressed.{Compressed}

-- 0 for a negative number
abbrev pub natural : ℤ → ℕ
natural (pos n) = n
natural (negsuc n) = 0

-- a word of a list, and 0 past its end
abbrev pub word : List ℤ → ℕ → ℤ
word ws at = slice_index_or ws at (pos 0)

-- value times (column + 1) of a place up to the diagonal of row i, and 0 of one after it
abbrev pub term : Compressed → ℕ → ℕ → ℤ
term m i p = if int_le (word m.index p) (pos i) then word m.val p *ℤ (word m.index p +ℤ pos 1) else pos 0

-- the stored places of row i
abbrev pub places : Compressed → ℕ → List ℕ
places m i = range_with_len (natural (word m.ptr i)) (natural (word m.ptr (i + 1)) - natural (word m.ptr i))

-- the wrapped sum over the places of row i
abbrev pub row_sum : Compressed → ℕ → ℤ
row_sum m i = wrapped (fold (λ z p. z +ℤ term m i p) (pos 0) (places m i))

abbrev pub right_side : Compressed → List ℤ
right_side m = map (row_sum m) (range_with_len 0 (length m.diag))
