-- Bounds on the values of variables.
use Rattle.std.proofs.Common.{ℕ, ◌≤◌, List, [], ◌∷◌, true, false, cond, arith, unsigned_abs}
use Rattle.std.specs.List.{All}
use Rattle.std.proofs.lemmas.List.Elements.{All-head, All-tail}
use Rattle.loop_core.specs.declared.nest.VarId.{VarId}
use Rattle.loop_core.specs.Binding.{Binding, value_in, same_variable}
use Rattle.inspector_run.specs.Ready.{reach}

-- the value of a variable is one of those in the list, or 0
pub value_in_within : (k : ℕ) (env : List Binding) (var : VarId) → All (λ b. unsigned_abs b.value ≤ reach k) env → unsigned_abs (value_in env var) ≤ reach k
value_in_within k [] var all = omega arith
value_in_within k (b ∷ bs) var all =
    elim (same_variable b.var var) as (λ t. unsigned_abs (cond t b.value (value_in bs var)) ≤ reach k) [
      | true ↦ All-head (λ c. unsigned_abs c.value ≤ reach k) b bs all
      | false ↦ value_in_within k bs var (All-tail (λ c. unsigned_abs c.value ≤ reach k) b bs all)
    ]
