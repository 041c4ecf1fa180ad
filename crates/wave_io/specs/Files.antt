-- Parts of a file's bytes.
use Rattle.std.specs.Prelude.{◌≡◌, ◌≤◌, ◌↔◌, ℕ, List, length, take, drop}

-- the first k bytes of the piece are the k bytes of the file that begin at the place
abbrev pub StandsAt : List ℕ → ℕ → List ℕ → ℕ → Type 0
StandsAt all at piece k = take k piece ≡ take k (drop at all)

-- no byte was given exactly where the place is at the file's end or past it
abbrev pub EndsExactly : List ℕ → ℕ → ℕ → Type 0
EndsExactly all at k = (k ≡ 0) ↔ (length all ≤ at)

-- the first n of these bytes are the first n of the file
abbrev pub Begin : List ℕ → List ℕ → ℕ → Type 0
Begin all bytes n = take n bytes ≡ take n all
