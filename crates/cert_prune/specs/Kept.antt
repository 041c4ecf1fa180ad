-- The marked steps with new numbers.
use Rattle.std.specs.Prelude.{ℕ, suc, ◌≡◌, ◌<◌, ◌+◌, Bool, true, false, if◌then◌else◌, List, [], ◌∷◌, map, length, slice_get, slice_index_or, Some}
use Rattle.std.specs.List.{Contains}
use Rattle.index_props.specs.declared.certificate.Step.{Step}
use Rattle.index_props.specs.declared.certificate.Step.TheVariants.{Base, Same, Sum, Weaken, Rule}
use Rattle.cert_prune.specs.Needed.{names}

-- how many marks stand before each place, with n before the first
abbrev pub numbers : ℕ → List Bool → List ℕ
numbers n [] = []
numbers n (m ∷ ms) = n ∷ numbers (if m then n + 1 else n) ms

-- the new number of a step; a number that no step has stays
abbrev pub number_in : List ℕ → ℕ → ℕ
number_in ns k = slice_index_or ns k k

-- a step with new numbers for those that it names
abbrev pub renamed : List ℕ → Step → Step
renamed ns (Base k) = Base k
renamed ns (Same a) = Same a
renamed ns (Sum k l) = Sum (number_in ns k) (number_in ns l)
renamed ns (Weaken k c) = Weaken (number_in ns k) c
renamed ns (Rule i j ks) = Rule i j (map (number_in ns) ks)

abbrev pub kept : List ℕ → List Bool → List Step → List Step
kept ns ms [] = []
kept ns [] (s ∷ ss) = []
kept ns (m ∷ ms) (s ∷ ss) = if m then renamed ns s ∷ kept ns ms ss else kept ns ms ss

-- each step but the last is named by a later one
abbrev pub IsLean : List Step → Type 0
IsLean steps = (k : ℕ) → suc k < length steps → (j : ℕ) × (s : Step) × (k < j) × (slice_get steps j ≡ Some s) × Contains (names s) k
