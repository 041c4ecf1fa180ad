-- Lists that stand one after another in one flat list.
use Rattle.std.specs.Prelude.{◌≡◌, ℕ, ◌+◌, ◌-◌, ◌<◌, ◌≤◌, List, length, map, slice_index, slice_range}
use Rattle.std.specs.List.{range_with_len}

-- the part of a flat list from start k up to the next start
abbrev pub part : {X : Type 0} → List ℕ → List X → ℕ → List X
part starts flat k = slice_range flat (slice_index starts k) (slice_index starts (k + 1))

-- the parts between one start and the next
abbrev pub cut : {X : Type 0} → List ℕ → List X → List (List X)
cut starts flat = map (part starts flat) (range_with_len 0 (length starts - 1))

-- the starts begin at 0, don't fall, and end at the flat list's length
abbrev pub IsCut : {X : Type 0} → List ℕ → List X → Type 0
IsCut starts flat =
    (0 < length starts) × (slice_index starts 0 ≡ 0) × (slice_index starts (length starts - 1) ≡ length flat) × ((k : ℕ) → k + 1 < length starts → slice_index starts k ≤ slice_index starts (k + 1)) × ((k : ℕ) → k < length starts → slice_index starts k ≤ length flat)
