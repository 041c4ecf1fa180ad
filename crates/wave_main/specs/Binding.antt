-- The arrays of a loop over a matrix and vectors.
use Rattle.std.specs.Prelude.{ℕ, ◌+◌, ℤ, List, Option, drop}
use Rattle.std.specs.Option.{option_map}
use Rattle.loop_core.specs.declared.decl.Decl.{Decl}
use Rattle.loop_core.specs.Lists.{Lists}
use Rattle.array_bind.specs.declared.shape.ShapeRefusal.{ShapeRefusal}
use Rattle.array_bind.specs.declared.shape.ShapeRefusal.TheVariants as refusals
use Rattle.array_bind.specs.Lists.{arrays_of, values_of}
use Rattle.array_bind.specs.Shape.{shape_fault}
use Rattle.wave_main.specs.declared.status.ShapeKind.TheVariants as shapes
use Rattle.wave_main.specs.declared.status.Status.{Status}
use Rattle.wave_main.specs.declared.status.Status.TheVariants.{Shape, Memory}
use Rattle.wave_main.specs.Files.{Inputs}
use Rattle.wave_main.specs.Matrices.{Parts, matrix_of, vectors_of}

-- file k is named by word first + k
abbrev pub shape_status : ℕ → ShapeRefusal → Status
shape_status first (refusals.NotSquare rows columns) = Shape (shapes.NotSquare rows columns)
shape_status first (refusals.Files have want) = Shape (shapes.Files have want)
shape_status first (refusals.Length file have want) = Shape (shapes.Length (first + file) have want)
shape_status first refusals.Memory = Memory

abbrev pub binding_fault : ℕ → List Decl → Parts → List (List ℤ) → Option Status
binding_fault first decls m vectors = option_map (shape_status first) (shape_fault decls m.0 m.1 m.2 vectors)

-- the vectors of the loop's arrays, and the word that names the first of them
abbrev pub array_vectors : Inputs → List (List ℤ)
array_vectors files = drop files.skips (vectors_of files.vectors)

abbrev pub array_word : Inputs → ℕ
array_word files = files.first + files.skips

-- the index arrays and the data arrays of declarations over the files
abbrev pub index_arrays : List Decl → Inputs → Lists
index_arrays decls files = arrays_of decls (matrix_of files.matrix).0 (matrix_of files.matrix).2 (array_vectors files)

abbrev pub data_arrays : List Decl → Inputs → List (List ℤ)
data_arrays decls files = values_of decls (matrix_of files.matrix).0 (matrix_of files.matrix).2 (array_vectors files)
