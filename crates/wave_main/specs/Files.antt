-- The bytes of files, told or not.
use Rattle.std.specs.Prelude.{◌≡◌, ℕ, ◌<◌, ◌≤◌, ◌^◌, List, [], ◌∷◌, Option, Some, None, length, IfSome, Vec, slice_index_or}
use Rattle.std.specs.declared.alloc.Global.{Global}

-- bytes that a file may have: those that are told, and any where none are told
abbrev pub MayBe : Option (List ℕ) → List ℕ → Type 0
MayBe told bytes = IfSome told (λ all. bytes ≡ all)

-- what was fetched of a file with these bytes: all of them, or nothing where they are more than the limit
abbrev pub IsFetched : ℕ → List ℕ → Option (Vec ℕ Global) → Type 0
IsFetched limit bytes (Some fetched) = (fetched.items ≡ bytes) × (length bytes ≤ limit)
IsFetched limit bytes None = limit < length bytes

-- some bytes that the file may have are those that were fetched
abbrev pub IsOfFile : ℕ → Option (List ℕ) → Option (Vec ℕ Global) → Type 0
IsOfFile limit told fetched = (bytes : List ℕ) × MayBe told bytes × IsFetched limit bytes fetched

-- the same for files one after another
abbrev pub AreFetched : ℕ → List (List ℕ) → List (Option (Vec ℕ Global)) → Type 0
AreFetched limit [] [] = Unit {0}
AreFetched limit (bytes ∷ more) (fetched ∷ others) = IsFetched limit bytes fetched × AreFetched limit more others
AreFetched limit _ _ = ⊥

abbrev pub MayBeAll : (List ℕ → Option (List ℕ)) → List (List ℕ) → List (List ℕ) → Type 0
MayBeAll held [] [] = Unit {0}
MayBeAll held (name ∷ names) (bytes ∷ more) = MayBe (held name) bytes × MayBeAll held names more
MayBeAll held _ _ = ⊥

abbrev pub AreOfFiles : (List ℕ → Option (List ℕ)) → List (List ℕ) → List (Option (Vec ℕ Global)) → Type 0
AreOfFiles held names fetched = (files : List (List ℕ)) × MayBeAll held names files × AreFetched (2 ^ 28) files fetched

-- the files of a command by what they are, the place of the word that names the first vector, and how many vectors
-- stand before those of the loop's arrays
pub record Inputs : Type 0 where
  pub loop_file : List ℕ
  pub matrix : List ℕ
  pub vectors : List (List ℕ)
  pub first : ℕ
  pub skips : ℕ

-- the word at a place, and the bytes of the file that it names
abbrev pub word_of : List (List ℕ) → ℕ → List ℕ
word_of words place = slice_index_or words place []
