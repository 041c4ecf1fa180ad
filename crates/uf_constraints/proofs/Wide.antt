-- Values of variables stay within 2^65.
use Rattle.std.proofs.Common.{◌≤◌, ◌^◌, List, [], ◌∷◌, true, false, cond, arith, unsigned_abs}
use Rattle.std.proofs.lemmas.List.Elements.{All-head, All-tail}
use Rattle.loop_core.specs.declared.nest.VarId.{VarId}
use Rattle.loop_core.specs.Binding.{Binding, value_in, same_variable}
use Rattle.uf_constraints.specs.Bindings.{AreWide}

pub value_in_wide : (env : List Binding) (var : VarId) → AreWide env → unsigned_abs (value_in env var) ≤ 2 ^ 65
value_in_wide [] var all = omega arith
value_in_wide (b ∷ bs) var all =
    elim (same_variable b.var var) as (λ t. unsigned_abs (cond t b.value (value_in bs var)) ≤ 2 ^ 65) [
      | true ↦ All-head (λ c. unsigned_abs c.value ≤ 2 ^ 65) b bs all
      | false ↦ value_in_wide bs var (All-tail (λ c. unsigned_abs c.value ≤ 2 ^ 65) b bs all)
    ]
