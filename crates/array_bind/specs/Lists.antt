-- A list for each array number: the index arrays, and the data arrays.
use Rattle.std.specs.Prelude.{◌≡◌, ℕ, ℤ, pos, List, [], ◌∷◌, ◌++◌, replicate, Option, Some, None, Result, Ok, Err}
use Rattle.loop_core.specs.declared.decl.Decl.{Decl}
use Rattle.loop_core.specs.declared.decl.DeclKind.{DeclKind}
use Rattle.loop_core.specs.declared.decl.DeclKind.TheVariants as kinds
use Rattle.loop_core.specs.declared.decl.Source.TheVariants.{File, Zeros}
use Rattle.loop_core.specs.Lists.{Lists}
use Rattle.loop_core.specs.Sizes.{size_length}
use Rattle.csr_arrays.specs.Axes.{Triple}
use Rattle.csr_arrays.specs.declared.compressed.Compressed.{Compressed}
use Rattle.array_bind.specs.declared.bind.Bound.{Bound}
use Rattle.array_bind.specs.declared.shape.ShapeRefusal.{ShapeRefusal}
use Rattle.array_bind.specs.declared.shape.ShapeRefusal.TheVariants as refusals
use Rattle.array_bind.specs.Matrix.{matrix_form, compressed}
use Rattle.array_bind.specs.Shape.{shape_fault, stored}

-- What each declaration takes: the matrix its arrays, and the other arrays of a file the next file.

abbrev pub first_file : List (List ℤ) → List ℤ
first_file [] = []
first_file (file ∷ files) = file

abbrev pub other_files : List (List ℤ) → List (List ℤ)
other_files [] = []
other_files (file ∷ files) = files

abbrev pub files_after : DeclKind → List (List ℤ) → List (List ℤ)
files_after (kinds.Matrix form) files = files
files_after (kinds.Index size) files = other_files files
files_after (kinds.Vector size File) files = other_files files
files_after (kinds.Vector size Zeros) files = files

-- the index arrays of a declaration, with an empty list for each data array
abbrev pub index_of : Compressed → DeclKind → List (List ℤ) → List (List ℤ)
index_of m (kinds.Matrix form) files = m.ptr ∷ m.index ∷ m.diag ∷ [] ∷ []
index_of m (kinds.Index size) files = first_file files ∷ []
index_of m (kinds.Vector size source) files = [] ∷ []

-- the data arrays of a declaration, with an empty list for each index array
abbrev pub data_of : ℕ → ℕ → Compressed → DeclKind → List (List ℤ) → List (List ℤ)
data_of n nnz m (kinds.Matrix form) files = [] ∷ [] ∷ [] ∷ m.val ∷ []
data_of n nnz m (kinds.Index size) files = [] ∷ []
data_of n nnz m (kinds.Vector size File) files = first_file files ∷ []
data_of n nnz m (kinds.Vector size Zeros) files = replicate (size_length n nnz size) (pos 0) ∷ []

-- a nest has one matrix; where there were a second one, it would have empty arrays
abbrev pub none_left : Compressed
none_left = record { ptr = []; index = []; diag = []; val = [] }

abbrev pub matrix_after : DeclKind → Compressed → Compressed
matrix_after (kinds.Matrix form) m = none_left
matrix_after (kinds.Index size) m = m
matrix_after (kinds.Vector size source) m = m

abbrev pub index_lists : Compressed → List Decl → List (List ℤ) → List (List ℤ)
index_lists m [] files = []
index_lists m (d ∷ more) files = index_of m d.kind files ++ index_lists (matrix_after d.kind m) more (files_after d.kind files)

abbrev pub data_lists : ℕ → ℕ → Compressed → List Decl → List (List ℤ) → List (List ℤ)
data_lists n nnz m [] files = []
data_lists n nnz m (d ∷ more) files = data_of n nnz m d.kind files ++ data_lists n nnz (matrix_after d.kind m) more (files_after d.kind files)

-- the arrays of a nest's declarations over a matrix and files
abbrev pub arrays_of : List Decl → ℕ → List Triple → List (List ℤ) → Lists
arrays_of decls n ts files = record {
  n = n;
  nnz = stored decls n ts;
  lists = index_lists (compressed (matrix_form decls) n ts) decls files;
}

abbrev pub values_of : List Decl → ℕ → List Triple → List (List ℤ) → List (List ℤ)
values_of decls n ts files = data_lists n (stored decls n ts) (compressed (matrix_form decls) n ts) decls files

abbrev pub bound_of : List Decl → ℕ → List Triple → List (List ℤ) → Bound
bound_of decls n ts files = record { arrays = arrays_of decls n ts files; values = values_of decls n ts files }

-- an answer: the arrays where all shapes fit, and the first shape that doesn't otherwise
abbrev pub Refused : Option ShapeRefusal → ShapeRefusal → Type 0
Refused fault refusals.Memory = Unit {0}
Refused fault why = fault ≡ Some why

abbrev pub Binds : List Decl → ℕ → ℕ → List Triple → List (List ℤ) → Result Bound ShapeRefusal → Type 0
Binds decls rows columns ts files (Ok bound) = (shape_fault decls rows columns ts files ≡ None) × (bound ≡ bound_of decls rows ts files)
Binds decls rows columns ts files (Err why) = Refused (shape_fault decls rows columns ts files) why
