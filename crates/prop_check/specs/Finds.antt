-- What a search for the first failure of a property gives.
use Rattle.std.specs.Prelude.{ℕ, ℤ, Bool, true, false, List, Option, Some, None}
use Rattle.loop_core.specs.declared.decl.PropKind.{PropKind}
use Rattle.loop_core.specs.Lists.{Lists}
use Rattle.index_props.specs.Meanings.{Means}
use Rattle.index_props.specs.Places.{IsLeast, Falls, Stays, FailsAt}
use Rattle.prop_check.specs.declared.places.Places.{Places}

-- the least number with a property, or none where no number has it
abbrev pub Finds : (ℕ → Type 0) → Option ℕ → Type 0
Finds P None = (k : ℕ) → P k → ⊥
Finds P (Some n) = IsLeast P n

-- the places of a property's failure, or none where it holds
abbrev pub Shows : Lists → PropKind → Option Places → Type 0
Shows a kind None = Means a kind
Shows a kind (Some x) = FailsAt a kind x.first x.second

-- an entry that is above the next one or, where it is strict, not below it
abbrev pub DoesNotRise : Bool → List ℤ → ℕ → Type 0
DoesNotRise false = Falls
DoesNotRise true = Stays
