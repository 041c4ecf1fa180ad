-- The pairs of iterations that a relation stands for.
use Rattle.std.specs.Prelude.{◌≡◌, ℕ, pos, List}
use Rattle.loop_core.specs.declared.nest.Side.TheVariants.{First, Second}
use Rattle.loop_core.specs.Lists.{Lists}
use Rattle.loop_core.specs.Binding.{Binding, value_in}
use Rattle.uf_constraints.specs.declared.system.Relation.{Relation}
use Rattle.uf_constraints.specs.Truth.{AllHold}

-- Some values of all variables make each constraint of the base true, and with them the outer variables,
-- those of the loop at this line, are i on the first side and j on the second.
abbrev pub Pairs : ℕ → Relation → Lists → ℕ → ℕ → Type 0
Pairs outer r a i j =
    (env : List Binding)
    × (value_in env (record { line = outer; side = First }) ≡ pos i)
    × (value_in env (record { line = outer; side = Second }) ≡ pos j)
    × AllHold a env r.base
