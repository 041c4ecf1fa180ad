-- Counts of faults. A count stands still at the last number of 64 bits.
use Rattle.std.specs.Prelude.{ℕ, ◌+◌, ◌-◌, ◌^◌, ◌≤◌, min}

-- the last number that a count shows
abbrev pub last_count : ℕ
last_count = 2 ^ 64 - 1

-- the count after one more fault
abbrev pub one_more : ℕ → ℕ
one_more count = min (count + 1) last_count

-- a count rose from the first number to the second
abbrev pub Rose : ℕ → ℕ → Type 0
Rose old new = one_more old ≤ new
