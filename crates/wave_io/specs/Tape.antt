-- A sink in memory as its users see it.
use Rattle.std.specs.Prelude.{◌≡◌, ◌-◌, ◌<◌, ℕ, List, ◌++◌, length, take, min, Contains, ◌⊎◌}
use Rattle.wave_io.specs.Faults.{one_more}

pub record Tape : Type 0 where
  -- what was taken so far
  pub bytes : List ℕ
  -- how many bytes it takes in all
  pub room : ℕ
  -- how many bytes it takes in one call
  pub piece : ℕ
  -- the numbers of the calls that are to fail
  pub fail : List ℕ
  -- how many calls were made
  pub calls : ℕ
  -- how many calls failed
  pub faults : ℕ

-- the next put of these bytes fails
abbrev pub Refuses : Tape → List ℕ → Type 0
Refuses tape bytes =
    (0 < length bytes) × (Contains tape.fail (one_more tape.calls) ⊎ (length tape.bytes ≡ tape.room))

-- how many of these bytes a put takes that doesn't fail
abbrev pub taken : Tape → List ℕ → ℕ
taken tape bytes = min (min (length bytes) tape.piece) (tape.room - length tape.bytes)

-- the sink after a put that didn't fail
abbrev pub after_put : Tape → List ℕ → Tape
after_put tape bytes =
    record tape { bytes = tape.bytes ++ take (taken tape bytes) bytes; calls = one_more tape.calls }

-- the sink after a put that failed
abbrev pub after_fault : Tape → Tape
after_fault tape = record tape { calls = one_more tape.calls; faults = one_more tape.faults }
