-- The matrix and the vectors of files.
use Rattle.std.specs.Prelude.{ℕ, ◌+◌, ℤ, List, [], ◌∷◌, map, Option, Some, None, Result, Ok, Err}
use Rattle.csr_arrays.specs.Axes.{Triple}
use Rattle.mtx_read.specs.Files.{matrix, vector}
use Rattle.mtx_read.specs.declared.refusal.MtxRefusal.{MtxRefusal}
use Rattle.mtx_read.specs.declared.refusal.MtxRefusal.TheVariants as refusals
use Rattle.wave_main.specs.declared.status.MtxFault.TheVariants as faults
use Rattle.wave_main.specs.declared.status.Status.{Status}
use Rattle.wave_main.specs.declared.status.Status.TheVariants.{MatrixText, Memory}

abbrev pub matrix_status : ℕ → MtxRefusal → Status
matrix_status word refusals.Header = MatrixText word faults.Header
matrix_status word (refusals.Field place) = MatrixText word (faults.Field place)
matrix_status word (refusals.Size line) = MatrixText word (faults.Size line)
matrix_status word (refusals.Entry line kind) = MatrixText word (faults.Entry line kind)
matrix_status word (refusals.Short have want) = MatrixText word (faults.Short have want)
matrix_status word (refusals.Extra line) = MatrixText word (faults.Extra line)
matrix_status word (refusals.Big what value) = MatrixText word (faults.Big what value)
matrix_status word refusals.Memory = Memory

abbrev pub fault_of : {A : Type 0} → ℕ → Result A MtxRefusal → Option Status
fault_of word (Ok value) = None
fault_of word (Err why) = Some (matrix_status word why)

-- why the file at word 2 is no matrix
abbrev pub matrix_fault : List ℕ → Option Status
matrix_fault bytes = fault_of 2 (matrix bytes)

abbrev pub first_status : Option Status → Option Status → Option Status
first_status (Some status) later = Some status
first_status None later = later

-- why the first of these files, which begin at a word, that is no vector is none
abbrev pub vectors_fault : ℕ → List (List ℕ) → Option Status
vectors_fault word [] = None
vectors_fault word (bytes ∷ more) = first_status (fault_of word (vector bytes)) (vectors_fault (word + 1) more)

-- rows, columns and triples
abbrev pub Parts : Type 0
Parts = ℕ × ℕ × List Triple

abbrev pub ok_or : {A : Type 0} → A → Result A MtxRefusal → A
ok_or other (Ok value) = value
ok_or other (Err why) = other

abbrev pub matrix_of : List ℕ → Parts
matrix_of bytes = ok_or (0, 0, []) (matrix bytes)

abbrev pub vectors_of : List (List ℕ) → List (List ℤ)
vectors_of files = map (λ bytes. ok_or [] (vector bytes)) files
