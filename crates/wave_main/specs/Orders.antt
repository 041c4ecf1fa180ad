-- Orders of events: which worker makes the next one.
use Rattle.std.specs.Prelude.{◌≡◌, ℕ, ◌<◌, ℤ, pos, List, [], map, Some, slice_get, slice_index_or}
use Rattle.std.specs.Option.{unwrap_or}
use Rattle.loop_core.specs.Instances.{natural}
use Rattle.wave_words.specs.Forms.{number}
use Rattle.wave_main.specs.Files.{word_of}

-- the number of workers of words that have it at place 3
abbrev pub workers_in : List (List ℕ) → ℕ
workers_in words = unwrap_or (number (word_of words 3)) 0

-- the entries of an order, which is the first of the vectors
abbrev pub order_of : List (List ℤ) → List ℤ
order_of vectors = slice_index_or vectors 0 []

-- the entry is the number of one of so many workers
abbrev pub IsNumber : ℕ → ℤ → Type 0
IsNumber workers value = (k : ℕ) × (value ≡ pos k) × (k < workers)

-- the first entry that is no worker's number
pub record IsFirstOdd (workers : ℕ) (entries : List ℤ) (place : ℕ) (value : ℤ) : Type 0 where
  pub there : slice_get entries place ≡ Some value
  pub odd : ¬ IsNumber workers value
  pub earlier : (k : ℕ) (x : ℤ) → k < place → slice_get entries k ≡ Some x → IsNumber workers x

-- the workers of the entries
abbrev pub order_numbers : List ℤ → List ℕ
order_numbers entries = map natural entries
