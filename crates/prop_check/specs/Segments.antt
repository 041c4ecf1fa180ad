-- The three properties that speak of segments, as one: what fails at a place of a segment.
use Rattle.std.specs.Prelude.{◌≤◌, ◌<◌, ℕ, ℤ, pos, ◌≤ℤ◌, Option, Some, None, List, length, slice_index_or}
use Rattle.std.specs.Int.Signed.{◌<ℤ◌}
use Rattle.index_props.specs.Meanings.{at}
use Rattle.index_props.specs.Places.{Stays, StaysIn, NotBelowIn, AboveIn, LeastIn}
use Rattle.prop_check.specs.declared.rule.Rule.{Rule}
use Rattle.prop_check.specs.declared.rule.Rule.TheVariants.{Sorted, Below, Upto}
use Rattle.prop_check.specs.declared.rule.Spot.{Spot}

-- place k of f is one that segment i may not hold; for `sorted`, not together with the next one
abbrev pub IsBad : Rule → List ℤ → ℕ → ℕ → Type 0
IsBad Sorted f i k = Stays f k
IsBad Below f i k = (k < length f) × (pos i ≤ℤ at f k)
IsBad Upto f i k = (k < length f) × (pos i <ℤ at f k)

-- and segment i of p holds it
abbrev pub IsBadIn : Rule → List ℤ → List ℤ → ℕ → ℕ → Type 0
IsBadIn Sorted f p = StaysIn f p
IsBadIn Below f p = NotBelowIn f p
IsBadIn Upto f p = AboveIn f p

-- none of the places from one up to another is bad in segment i
abbrev pub IsClean : Rule → List ℤ → ℕ → ℕ → ℕ → Type 0
IsClean rule f i from to = (k : ℕ) → from ≤ k → k < to → IsBad rule f i k → ⊥

-- Each entry of `skips` is a place up to which all places from its own on are clean. A place without an entry is
-- its own.
abbrev pub known : List ℕ → ℕ → ℕ
known skips k = slice_index_or skips k k

abbrev pub AreSkips : Rule → List ℤ → ℕ → List ℕ → Type 0
AreSkips rule f i skips = (k : ℕ) → (k ≤ known skips k) × IsClean rule f i k (known skips k)

-- the least segment with a bad place, and its least
abbrev pub FindsIn : (ℕ → ℕ → Type 0) → Option Spot → Type 0
FindsIn P None = (i k : ℕ) → P i k → ⊥
FindsIn P (Some x) = LeastIn P x.segment x.place
