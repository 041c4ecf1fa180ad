-- Which steps of a certificate the last one needs.
use Rattle.std.specs.Prelude.{ℕ, suc, ◌≡◌, ◌⊎◌, ◌<◌, ◌≤◌, Bool, true, false, List, [], ◌∷◌, length, slice_get, slice_index_or, Some}
use Rattle.std.specs.List.{Contains}
use Rattle.index_props.specs.declared.certificate.Step.{Step}
use Rattle.index_props.specs.declared.certificate.Step.TheVariants.{Base, Same, Sum, Weaken, Rule}

-- the earlier steps that a step names
abbrev pub names : Step → List ℕ
names (Base k) = []
names (Same a) = []
names (Sum k l) = k ∷ l ∷ []
names (Weaken k c) = k ∷ []
names (Rule i j ks) = ks

abbrev pub is_marked : List Bool → ℕ → Bool
is_marked marks k = slice_index_or marks k false

-- the marks with those of these numbers that are below a bound
pub record IsMarked (below : ℕ) (ks : List ℕ) (old new : List Bool) : Type 0 where
  pub long : length new ≡ length old
  pub grown : (k : ℕ) → is_marked old k ≡ true → is_marked new k ≡ true
  pub marked : (k : ℕ) → Contains ks k → k < below → is_marked new k ≡ true
  pub only : (k : ℕ) → is_marked new k ≡ true → (is_marked old k ≡ true) ⊎ (Contains ks k × (k < below))

-- so it is where a mark stands at a number; else the marks stay
pub record IsMarkedFrom (at : ℕ) (ks : List ℕ) (old new : List Bool) : Type 0 where
  pub there : is_marked old at ≡ true → IsMarked at ks old new
  pub else : is_marked old at ≡ false → new ≡ old

-- a marked step names the step of that number
pub record IsNamed (steps : List Step) (marks : List Bool) (k j : ℕ) (s : Step) : Type 0 where
  pub after : k < j
  pub step : slice_get steps j ≡ Some s
  pub marked : is_marked marks j ≡ true
  pub named : Contains (names s) k

-- the marks stand at the last step, and at each step that a later marked one from a number on names
pub record AreNeeded (from : ℕ) (steps : List Step) (marks : List Bool) : Type 0 where
  pub long : length marks ≡ length steps
  pub last : (k : ℕ) → suc k ≡ length steps → is_marked marks k ≡ true
  pub closed : (k j : ℕ) (s : Step) → from ≤ j → IsNamed steps marks k j s → is_marked marks k ≡ true
  pub only : (k : ℕ) → suc k < length steps → is_marked marks k ≡ true → (j : ℕ) × (s : Step) × IsNamed steps marks k j s
