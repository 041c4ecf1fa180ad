-- What files that were read say.
use Rattle.std.specs.Prelude.{◌≡◌, ℕ, None}
use Rattle.access_bounds.specs.Accepted.{IsAccepted}
use Rattle.wave_main.specs.declared.input.ReadFiles.{ReadFiles}
use Rattle.wave_main.specs.Binding.{array_vectors, array_word}
use Rattle.wave_main.specs.Files.{Inputs}
use Rattle.wave_main.specs.Loops.{IsLoop}
use Rattle.wave_main.specs.Matrices.{Parts, matrix_fault, matrix_of, vectors_fault, vectors_of}

-- rows, columns and triples of the matrix
abbrev pub parts_of : ReadFiles → Parts
parts_of read = (read.matrix.rows, read.matrix.columns, read.matrix.entries)

-- the files are an accepted loop and this matrix, and each vector is one
pub record AreGood (files : Inputs) (read : ReadFiles) : Type 0 where
  pub is_loop : IsLoop files.loop_file read.nest
  pub accepted : IsAccepted read.nest
  pub matrix_fine : matrix_fault files.matrix ≡ None
  pub matrix_is : matrix_of files.matrix ≡ parts_of read
  pub vectors_fine : vectors_fault files.first files.vectors ≡ None

-- with all their vectors
pub record IsReadFrom (files : Inputs) (read : ReadFiles) : Type 0 where
  pub good : AreGood files read
  pub vectors_are : read.vectors.items ≡ vectors_of files.vectors

-- with the vectors of the loop's arrays, of which a word names the first
pub record HasArrays (files : Inputs) (read : ReadFiles) (word : ℕ) : Type 0 where
  pub good : AreGood files read
  pub vectors_are : read.vectors.items ≡ array_vectors files
  pub named : array_word files ≡ word
