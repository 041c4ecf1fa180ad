-- What the run of operations from some values of the variables asks for.
use Rattle.std.specs.Prelude.{ℕ, ◌+◌, ◌*◌, ◌^◌, ◌<◌, ◌≤◌, ℤ, ◌≤ℤ◌, List, [], ◌∷◌, length, unsigned_abs}
use Rattle.std.specs.List.{All, flat_map}
use Rattle.loop_core.specs.declared.nest.VarId.{VarId}
use Rattle.loop_core.specs.Lists.{Lists, list_of}
use Rattle.loop_core.specs.Binding.{Binding}
use Rattle.inspector_run.specs.declared.plan.InspOp.{InspOp}
use Rattle.inspector_run.specs.declared.plan.InspOp.TheVariants.{Loop, Let, Find, Locate, Test, Emit}
use Rattle.inspector_run.specs.Tries.{word}
use Rattle.inspector_run.specs.Pairs.{fixed, met, IsEarlier}

-- how far from 0 a value may be where k variables are fixed
abbrev pub reach : ℕ → ℕ
reach k = 2 ^ 64 + k * 2 ^ 31

-- values that the next variable may have
abbrev pub AreNear : ℕ → List ℤ → Type 0
AreNear k values = All (λ x. unsigned_abs x ≤ reach (k + 1)) values

-- the values of at most 12 variables
pub record AreHeld (env : List Binding) : Type 0 where
  pub few : length env ≤ 12
  pub within : All (λ b. unsigned_abs b.value ≤ reach (length env)) env

-- the variable that an operation fixes
abbrev pub fixes : InspOp → List VarId
fixes (Loop v lo hi) = v ∷ []
fixes (Let v t) = v ∷ []
fixes (Find v f plus t) = v ∷ []
fixes (Locate v p plus t) = v ∷ []
fixes (Test d) = []
fixes (Emit i j) = []

-- the outermost constants of an operation that fixes a variable are small
abbrev pub IsNear : InspOp → Type 0
IsNear (Loop v lo hi) = (unsigned_abs lo.plus ≤ 2 ^ 31) × (unsigned_abs hi.plus ≤ 2 ^ 31)
IsNear (Let v t) = unsigned_abs t.plus ≤ 2 ^ 31
IsNear (Find v f plus t) = unsigned_abs plus ≤ 2 ^ 31
IsNear (Locate v p plus t) = unsigned_abs plus ≤ 2 ^ 31
IsNear (Test d) = Unit {0}
IsNear (Emit i j) = Unit {0}

-- no entry is above a later one
abbrev pub IsAscending : List ℤ → Type 0
IsAscending list = (s t : ℕ) → s ≤ t → t < length list → word list s ≤ℤ word list t

-- the array of a `Locate` ascends
abbrev pub SearchesAscending : Lists → InspOp → Type 0
SearchesAscending a (Locate v p plus t) = IsAscending (list_of a.lists p)
SearchesAscending a (Loop v lo hi) = Unit {0}
SearchesAscending a (Let v t) = Unit {0}
SearchesAscending a (Find v f plus t) = Unit {0}
SearchesAscending a (Test d) = Unit {0}
SearchesAscending a (Emit i j) = Unit {0}

pub record IsReady (a : Lists) (ops : List InspOp) (env : List Binding) : Type 0 where
  pub held : AreHeld env
  pub few : length env + length (flat_map fixes ops) ≤ 12
  pub near : All IsNear ops
  pub ascending : All (SearchesAscending a) ops
  pub earlier : All (IsEarlier a.n) (met a ops env)

-- at each value of a variable
abbrev pub AreReady : Lists → List InspOp → VarId → List Binding → List ℤ → Type 0
AreReady a ops v env values = All (λ x. IsReady a ops (fixed v x env)) values
