-- Whether a matrix and files have the shapes that a nest's declarations ask.
use Rattle.std.specs.Prelude.{ℕ, ℤ, ◌+◌, if◌then◌else◌, ◌==◌, List, [], ◌∷◌, length, Option, Some, None}
use Rattle.std.specs.Option.{option_map}
use Rattle.loop_core.specs.declared.decl.Decl.{Decl}
use Rattle.loop_core.specs.declared.decl.DeclKind.{DeclKind}
use Rattle.loop_core.specs.declared.decl.DeclKind.TheVariants as kinds
use Rattle.loop_core.specs.declared.decl.Size.{Size}
use Rattle.loop_core.specs.declared.decl.Source.TheVariants.{File, Zeros}
use Rattle.loop_core.specs.Sizes.{size_length}
use Rattle.csr_arrays.specs.Axes.{Triple}
use Rattle.array_bind.specs.declared.shape.OtherLength.{OtherLength}
use Rattle.array_bind.specs.declared.shape.ShapeRefusal.{ShapeRefusal}
use Rattle.array_bind.specs.declared.shape.ShapeRefusal.TheVariants as refusals
use Rattle.array_bind.specs.Matrix.{matrix_form, compressed}

-- the size of the array of a declaration, where it begins with the words of a file
abbrev pub file_size : DeclKind → Option Size
file_size (kinds.Matrix form) = None
file_size (kinds.Index size) = Some size
file_size (kinds.Vector size File) = Some size
file_size (kinds.Vector size Zeros) = None

abbrev pub before : Option Size → List Size → List Size
before None sizes = sizes
before (Some size) sizes = size ∷ sizes

-- the sizes of these arrays, in the order of their declarations
abbrev pub file_sizes : List Decl → List Size
file_sizes [] = []
file_sizes (d ∷ more) = before (file_size d.kind) (file_sizes more)

-- the file that a refusal names
abbrev pub file_of : ShapeRefusal → ℕ
file_of (refusals.Length file have want) = file
file_of (refusals.NotSquare rows columns) = 0
file_of (refusals.Files have want) = 0
file_of refusals.Memory = 0

-- the first file, of those with numbers from k on, that hasn't the length of its array
abbrev pub length_fault : ℕ → ℕ → ℕ → List Size → List (List ℤ) → Option OtherLength
length_fault n nnz k (size ∷ sizes) (file ∷ files) =
    if length file == size_length n nnz size then length_fault n nnz (k + 1) sizes files else Some (record { file = k; have = length file; want = size_length n nnz size })
length_fault n nnz k _ _ = None

abbrev pub length_refusal : OtherLength → ShapeRefusal
length_refusal other = refusals.Length other.file other.have other.want

abbrev pub stored : List Decl → ℕ → List Triple → ℕ
stored decls n ts = length (compressed (matrix_form decls) n ts).index

-- the first shape that doesn't fit: a matrix that isn't square, another number of files, the length of a file
abbrev pub files_fault : List Decl → ℕ → List Triple → List (List ℤ) → Option ShapeRefusal
files_fault decls n ts files =
    if length files == length (file_sizes decls) then option_map length_refusal (length_fault n (stored decls n ts) 0 (file_sizes decls) files) else Some (refusals.Files (length files) (length (file_sizes decls)))

abbrev pub shape_fault : List Decl → ℕ → ℕ → List Triple → List (List ℤ) → Option ShapeRefusal
shape_fault decls rows columns ts files =
    if rows == columns then files_fault decls rows ts files else Some (refusals.NotSquare rows columns)
