-- A library in memory as its users see it.
use Rattle.std.specs.Prelude.{ℕ, List, [], ◌∷◌, Option, Some, None, Contains, IsNone, is_some, if◌then◌else◌, ◌⊎◌, String, string_bytes, Vec}
use Rattle.std.specs.Str.{bytes_eq}
use Rattle.wave_io.specs.Faults.{one_more}

pub record Shelf : Type 0 where
  -- each file's name and bytes
  pub files : List (List ℕ × List ℕ)
  -- the numbers of the calls that are to fail
  pub fail : List ℕ
  -- how many calls were made
  pub calls : ℕ
  -- how many calls failed at names that it has
  pub faults : ℕ
  -- how many calls failed at all other names
  pub other_faults : ℕ

-- a file's name and bytes
abbrev pub named : {Y Z : Type 0} → String Y × Vec ℕ Z → List ℕ × List ℕ
named file = (string_bytes file.0, file.1.items)

-- the bytes of the first file of that name
abbrev pub bytes_of : List (List ℕ × List ℕ) → List ℕ → Option (List ℕ)
bytes_of [] name = None
bytes_of (file ∷ files) name = if bytes_eq file.0 name then Some file.1 else bytes_of files name

-- how many calls failed at that name or at one of its kind
abbrev pub faults_at : Shelf → List ℕ → ℕ
faults_at shelf name = if is_some (bytes_of shelf.files name) then shelf.faults else shelf.other_faults

-- the next fetch at that name fails
abbrev pub Misses : Shelf → List ℕ → Type 0
Misses shelf name = Contains shelf.fail (one_more shelf.calls) ⊎ IsNone (bytes_of shelf.files name)

-- the library after a fetch that didn't fail
abbrev pub after_fetch : Shelf → Shelf
after_fetch shelf = record shelf { calls = one_more shelf.calls }

-- the library after a fetch that failed at that name
abbrev pub after_miss : Shelf → List ℕ → Shelf
after_miss shelf name = if is_some (bytes_of shelf.files name)
    then record shelf { calls = one_more shelf.calls; faults = one_more shelf.faults }
    else record shelf { calls = one_more shelf.calls; other_faults = one_more shelf.other_faults }
