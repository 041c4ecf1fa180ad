-- A lower triangular matrix that is drawn, row by row.
use Rattle.std.specs.Prelude.{ℕ, zero, suc, pos, ◌-ℤ◌, ◌+◌, ◌-◌, ◌*◌, ◌%◌, List, [], ◌∷◌, ◌++◌, if◌then◌else◌, ◌==◌}
use Rattle.csr_arrays.specs.Axes.{Triple}
use Rattle.wave_gen.specs.Texts.{matrix_text}
use Rattle.wave_gen.specs.Draws.{next, drawn, twice}

-- an entry left of the diagonal of row i: a draw for the column and one for the value, after state s
abbrev pub left : ℕ → ℕ → Triple
left i s = (i, drawn (next s) % i, pos (drawn (twice s) % 19) -ℤ pos 9)

-- the entry on the diagonal of row i: a draw for the value, after state s
abbrev pub diagonal : ℕ → ℕ → Triple
diagonal i s = (i, i, pos (1 + drawn (next s) % 9))

abbrev pub three : ℕ → ℕ → List Triple
three i s = left i s ∷ left i (twice s) ∷ left i (twice (twice s)) ∷ []

-- three entries left of the diagonal, but none in the first row, after state s
abbrev pub lefts : ℕ → ℕ → List Triple
lefts i s = if i == 0 then [] else three i s

-- the state after these
abbrev pub after_lefts : ℕ → ℕ → ℕ
after_lefts i s = if i == 0 then s else twice (twice (twice s))

-- the entries of row i, after state s, and the state after them
abbrev pub row : ℕ → ℕ → List Triple
row i s = lefts i s ++ diagonal i (after_lefts i s) ∷ []

abbrev pub after_row : ℕ → ℕ → ℕ
after_row i s = next (after_lefts i s)

-- the entries of so many rows from row i on, after state s
abbrev pub rows_from : ℕ → ℕ → ℕ → List Triple
rows_from zero i s = []
rows_from (suc rows) i s = row i s ++ rows_from rows (i + 1) (after_row i s)

abbrev pub lower_entries : ℕ → ℕ → List Triple
lower_entries n seed = rows_from n 0 seed

abbrev pub lower_text : ℕ → ℕ → List ℕ
lower_text n seed = matrix_text n (n + 3 * (n - 1)) (lower_entries n seed)
