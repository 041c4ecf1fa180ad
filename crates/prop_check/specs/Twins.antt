-- Entries with their places, sorted, and equal ones beside each other.
use Rattle.std.specs.Prelude.{◌≡◌, ◌⊎◌, ◌<◌, ◌≤◌, ◌+◌, ℕ, ℤ, pos, Option, Some, None, List, length, slice_index_or}
use Rattle.std.specs.Int.Signed.{◌<ℤ◌}
use Rattle.std.specs.List.{All, Contains}
use Rattle.index_props.specs.Meanings.{at}
use Rattle.prop_check.specs.declared.injective.Held.{Held}
use Rattle.prop_check.specs.declared.places.Places.{Places}

abbrev pub nothing : Held
nothing = record { value = pos 0; place = 0 }

abbrev pub held : List Held → ℕ → Held
held es k = slice_index_or es k nothing

abbrev pub IsHeld : List ℤ → Held → Type 0
IsHeld f h = (h.place < length f) × (h.value ≡ at f h.place)

-- exactly the entries of a list, each with its place
pub record HoldsAll (f : List ℤ) (es : List Held) : Type 0 where
  pub only : All (IsHeld f) es
  pub each : (k : ℕ) → k < length f → Contains es (record { value = at f k; place = k })

-- by value, then by place
abbrev pub IsNotAfter : Held → Held → Type 0
IsNotAfter x y = (x.value <ℤ y.value) ⊎ ((x.value ≡ y.value) × (x.place ≤ y.place))

abbrev pub IsInOrder : List Held → Type 0
IsInOrder es = (k : ℕ) → k + 1 < length es → IsNotAfter (held es k) (held es (k + 1))

-- the next one is equal, and stands later
abbrev pub HasTwin : List Held → ℕ → Type 0
HasTwin es k = (k + 1 < length es) × ((held es k).value ≡ (held es (k + 1)).value) × ((held es k).place < (held es (k + 1)).place)

abbrev pub twins_at : List Held → ℕ → Places
twins_at es k = record { first = (held es k).place; second = (held es (k + 1)).place }

-- of the first n neighbours, the equal ones whose second place is least
abbrev pub FirstTwins : List Held → ℕ → Option Places → Type 0
FirstTwins es n None = (k : ℕ) → k < n → HasTwin es k → ⊥
FirstTwins es n (Some x) = ((k : ℕ) × HasTwin es k × (x ≡ twins_at es k)) × ((k : ℕ) → k < n → HasTwin es k → x.second ≤ (held es (k + 1)).place)
