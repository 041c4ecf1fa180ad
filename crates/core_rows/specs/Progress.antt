-- The values of a row's instances one after another: each takes the registers of its own reads.
use Rattle.std.specs.Prelude.{◌≡◌, ℕ, ℤ, ◌+◌, ◌≤◌, List, [], ◌∷◌, ◌++◌, take, drop, length}
use Rattle.core_rows.specs.Deeds.{Deed}
use Rattle.core_rows.specs.Locals.{kept_by, zeros}
use Rattle.core_rows.specs.Replay.{instance_of}

-- the locals after some instances of a row, and how many registers these have taken
pub record Progress : Type 0 where
  pub locals : List ℤ
  pub used : ℕ

abbrev pub begun_row : ℕ → Progress
begun_row n = record { locals = zeros n; used = 0 }

-- the value of the next instance
abbrev pub next_value : List ℤ → Deed → Progress → ℤ
next_value registers d p = d.value p.locals (take (length d.reads) (drop p.used registers))

abbrev pub advanced : List ℤ → Deed → Progress → Progress
advanced registers d p = record { locals = kept_by d.effect p.locals (next_value registers d p); used = p.used + length d.reads }

-- after these instances
abbrev pub caught_up : List ℤ → List Deed → Progress → Progress
caught_up registers [] p = p
caught_up registers (d ∷ more) p = caught_up registers more (advanced registers d p)

-- how many cells some instances read
abbrev pub reads_in : List Deed → ℕ
reads_in [] = 0
reads_in (d ∷ more) = length d.reads + reads_in more

-- an instance's value is its value after those before it in its row
abbrev pub ComesStepByStep : ℕ → List Deed → Deed → List ℤ → Type 0
ComesStepByStep n earlier d registers = (instance_of n earlier d).value registers ≡ next_value registers d (caught_up registers earlier (begun_row n))

-- what is read later changes nothing of what was taken
pub record StaysTaken (registers more : List ℤ) (ds : List Deed) (p : Progress) : Type 0 where
  pub used : (caught_up registers ds p).used ≡ p.used + reads_in ds
  pub same : p.used + reads_in ds ≤ length registers → caught_up (registers ++ more) ds p ≡ caught_up registers ds p
