-- What was fetched of a command's files, and faults of fetching them one after another.
use Rattle.std.specs.Prelude.{◌≡◌, ◌⊎◌, ℕ, ◌+◌, ◌<◌, ◌≤◌, ◌^◌, List, Option, length, drop}
use Rattle.wave_io.specs.Faults.{Rose}
use Rattle.wave_main.specs.declared.status.Status.{Status}
use Rattle.wave_main.specs.declared.status.Status.TheVariants.{ReadFault}
use Rattle.wave_main.specs.declared.fetch.InputBytes.{InputBytes}
use Rattle.wave_main.specs.Files.{Inputs, MayBe, MayBeAll, IsFetched, AreFetched, word_of}

-- the count of faults at one of these names, of which the first is that of a word, rose
abbrev pub IsFaultFrom : ℕ → List (List ℕ) → (List ℕ → ℕ) → (List ℕ → ℕ) → Status → Type 0
IsFaultFrom first names old new status =
    (at : ℕ) × (at < length names) × (status ≡ ReadFault (first + at)) × Rose (old (word_of names at)) (new (word_of names at))

-- a fault at the name of the loop, of the matrix, or of a file from a word on
abbrev pub IsInputFault : ℕ → List (List ℕ) → (List ℕ → ℕ) → (List ℕ → ℕ) → Status → Type 0
IsInputFault first words old new status =
    (word : ℕ) × (word < length words) × ((word ≡ 1) ⊎ (word ≡ 2) ⊎ (first ≤ word)) × (status ≡ ReadFault word) × Rose (old (word_of words word)) (new (word_of words word))

-- what was fetched of the files
pub record AreInputs (files : Inputs) (got : InputBytes) : Type 0 where
  pub loop_is : IsFetched 65536 files.loop_file got.loop_file
  pub matrix_is : IsFetched (2 ^ 28) files.matrix got.matrix
  pub vectors_are : AreFetched (2 ^ 28) files.vectors got.vectors.items

-- bytes that files with these words may have, of which the vectors begin at a word, and what was fetched of them
pub record IsInputFetched (held : List ℕ → Option (List ℕ)) (words : List (List ℕ)) (first : ℕ) (files : List (List ℕ)) (got : InputBytes) : Type 0 where
  pub one_each : length files ≡ length words
  pub loop_may : MayBe (held (word_of words 1)) (word_of files 1)
  pub matrix_may : MayBe (held (word_of words 2)) (word_of files 2)
  pub vectors_may : MayBeAll held (drop first words) (drop first files)
  pub are : AreInputs (record { loop_file = word_of files 1; matrix = word_of files 2; vectors = drop first files; first = first; skips = 0 }) got
