-- The pairs that operations emit, and the assignments that they try.
use Rattle.std.specs.Prelude.{ℕ, ◌+◌, ℤ, pos, ◌≤ℤ◌, ◌<ℤ◌, if◌then◌else◌, List, [], ◌∷◌, map}
use Rattle.std.specs.List.{flat_map}
use Rattle.wave_base.specs.declared.types.RowId.{RowId}
use Rattle.loop_core.specs.declared.nest.VarId.{VarId}
use Rattle.loop_core.specs.Lists.{Lists}
use Rattle.loop_core.specs.Binding.{Binding, value_in}
use Rattle.loop_core.specs.Instances.{natural}
use Rattle.inspector_run.specs.declared.plan.InspOp.{InspOp}
use Rattle.inspector_run.specs.declared.plan.InspOp.TheVariants.{Loop, Let, Find, Locate, Test, Emit}
use Rattle.inspector_run.specs.Tries.{tried, is_true}

-- one variable more
abbrev pub fixed : VarId → ℤ → List Binding → List Binding
fixed v x env = record { var = v; value = x } ∷ env

-- what follows, for each value of a variable
abbrev pub met_along : (List Binding → List (ℤ × ℤ)) → VarId → List Binding → List ℤ → List (ℤ × ℤ)
met_along rest v env values = flat_map (λ x. rest (fixed v x env)) values

-- one operation before what follows it
abbrev pub met_step : Lists → InspOp → (List Binding → List (ℤ × ℤ)) → List Binding → List (ℤ × ℤ)
met_step a (Loop v lo hi) rest env = met_along rest v env (tried a env (Loop v lo hi))
met_step a (Let v t) rest env = met_along rest v env (tried a env (Let v t))
met_step a (Find v f plus t) rest env = met_along rest v env (tried a env (Find v f plus t))
met_step a (Locate v p plus t) rest env = met_along rest v env (tried a env (Locate v p plus t))
met_step a (Test d) rest env = if is_true a env d then rest env else []
met_step a (Emit i j) rest env = (value_in env i, value_in env j) ∷ rest env

-- the pairs that operations emit from these values of the variables, in order, with repeats
abbrev pub met : Lists → List InspOp → List Binding → List (ℤ × ℤ)
met a [] env = []
met a (op ∷ ops) env = met_step a op (met a ops) env

-- a pair of values as rows
abbrev pub as_rows : ℤ × ℤ → RowId × RowId
as_rows p = (record { 0 = natural p.0 }, record { 0 = natural p.1 })

-- the pairs that a plan emits
abbrev pub emitted : Lists → List InspOp → List (RowId × RowId)
emitted a ops = map as_rows (met a ops [])

-- an earlier row and a later one
pub record IsEarlier (n : ℕ) (p : ℤ × ℤ) : Type 0 where
  pub low : pos 0 ≤ℤ p.0
  pub apart : p.0 <ℤ p.1
  pub high : p.1 <ℤ pos n

-- each value that is tried for a variable is a visit, and brings those that follow it
abbrev pub visits_along : (List Binding → ℕ) → VarId → List Binding → List ℤ → ℕ
visits_along rest v env [] = 0
visits_along rest v env (x ∷ xs) = (1 + rest (fixed v x env)) + visits_along rest v env xs

abbrev pub visits_step : Lists → InspOp → (List Binding → ℕ) → List Binding → ℕ
visits_step a (Loop v lo hi) rest env = visits_along rest v env (tried a env (Loop v lo hi))
visits_step a (Let v t) rest env = visits_along rest v env (tried a env (Let v t))
visits_step a (Find v f plus t) rest env = visits_along rest v env (tried a env (Find v f plus t))
visits_step a (Locate v p plus t) rest env = visits_along rest v env (tried a env (Locate v p plus t))
visits_step a (Test d) rest env = if is_true a env d then rest env else 0
visits_step a (Emit i j) rest env = rest env

-- the values that are tried from these values of the variables on
abbrev pub visits_after : Lists → List InspOp → List Binding → ℕ
visits_after a [] env = 0
visits_after a (op ∷ ops) env = visits_step a op (visits_after a ops) env

-- the visits of a plan: the empty assignment, and every value that is tried, whether its tests hold or not
abbrev pub visits : Lists → List InspOp → ℕ
visits a ops = 1 + visits_after a ops []
