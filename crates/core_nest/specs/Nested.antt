-- The rows of a nest as rows of a work. Only reads of arrays that the nest writes are reads of the work.
use Rattle.std.specs.Prelude.{ℕ, zero, suc, ℤ, pos, List, [], ◌∷◌, map}
use Rattle.wave_base.specs.declared.types.Cell.{Cell}
use Rattle.sched_types.specs.declared.sched.Task.{Task}
use Rattle.loop_core.specs.declared.nest.Nest.{Nest}
use Rattle.loop_core.specs.declared.place.Place.{Place}
use Rattle.loop_core.specs.Lists.{Lists}
use Rattle.loop_core.specs.declared.effect.Effect.{Effect}
use Rattle.loop_core.specs.declared.effect.Effect.TheVariants.{Sets, Keeps}
use Rattle.loop_core.specs.Instances.{Instance, instances, natural}
use Rattle.loop_core.specs.Registers.{shared_reads, register_value}
use Rattle.core_rows.specs.Deeds.{Effect as RowEffect, Sets as SetsCell, Keeps as KeepsLocal, Deed, RowWork}

-- the cell of a place that is inside its list
abbrev pub cell_of : Place → Cell
cell_of p = record { array = p.array; at = natural p.at }

abbrev pub effect_of : Effect → RowEffect
effect_of (Sets p) = SetsCell (cell_of p)
effect_of (Keeps local) = KeepsLocal local

-- an instance: it reads the cells of written arrays, and takes the words of other arrays from the lists at the start
abbrev pub deed_of : Nest → List (List ℤ) → Instance → Deed
deed_of nest x s = record {
  reads = map cell_of (shared_reads nest s.value);
  effect = effect_of s.effect;
  value = λ locals own. register_value nest x locals s.value own;
}

-- the instances of iteration i
abbrev pub deeds_of : Nest → Lists → List (List ℤ) → ℕ → List Deed
deeds_of nest a x i = map (deed_of nest x) (instances a nest (pos i))

-- so many rows, from the row b on
abbrev pub rows_from : ℕ → ℕ → (ℕ → List Deed) → List (List Deed)
rows_from zero b row = []
rows_from (suc n) b row = row b ∷ rows_from n (suc b) row

abbrev pub nest_work : Nest → Lists → List (List ℤ) → List (List Task) → RowWork
nest_work nest a x workers = record { locals = 16; rows = rows_from a.n 0 (deeds_of nest a x); workers = workers; start = x }
