-- The text of a matrix: the first line, the size line, and a line for each entry.
use Rattle.std.specs.Prelude.{ℕ, ◌+◌, codes, decimal, List, ◌++◌}
use Rattle.std.specs.List.{flat_map}
use Rattle.std.specs.Fmt.{signed_decimal}
use Rattle.csr_arrays.specs.Axes.{Triple}

unfoldable pub banner : List ℕ
banner = codes "%%MatrixMarket matrix coordinate integer general\n"

-- of a square matrix, with its numbers of rows and of entries
abbrev pub size_text : ℕ → ℕ → List ℕ
size_text rows stored = decimal rows ++ codes " " ++ decimal rows ++ codes " " ++ decimal stored ++ codes "\n"

-- a triple of row, column and value: rows and columns count from 1 in the text
abbrev pub entry_text : Triple → List ℕ
entry_text t = decimal (t.0 + 1) ++ codes " " ++ decimal (t.1 + 1) ++ codes " " ++ signed_decimal t.2 ++ codes "\n"

abbrev pub entries_text : List Triple → List ℕ
entries_text ts = flat_map entry_text ts

abbrev pub matrix_text : ℕ → ℕ → List Triple → List ℕ
matrix_text rows stored ts = banner ++ size_text rows stored ++ entries_text ts
