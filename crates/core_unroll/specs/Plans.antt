-- The actions of a row in the code's form. Each write names its instance among the worker's.
use Rattle.std.specs.Prelude.{ℕ, suc, ℤ, Bool, true, false, not, List, [], ◌∷◌, ◌++◌, map}
use Rattle.std.specs.List.{filter}
use Rattle.wave_base.specs.declared.types.ArrayId.{ArrayId}
use Rattle.loop_core.specs.declared.place.Place.{Place}
use Rattle.loop_core.specs.declared.effect.Effect.{Effect}
use Rattle.loop_core.specs.declared.effect.Effect.TheVariants.{Sets, Keeps}
use Rattle.loop_core.specs.Instances.{Formula, Instance}
use Rattle.loop_core.specs.Values.{reads}
use Rattle.loop_core.specs.Sequence.{word_of}
use Rattle.sched_types.specs.declared.lists.Wait.{Wait}
use Rattle.core_nest.specs.Nested.{cell_of}
use Rattle.core_run.specs.declared.action.Action.{Action}
use Rattle.core_run.specs.declared.action.Action.TheVariants.{Look, Read, Write, Finish}

-- the places of written arrays that a formula reads, and the words that it reads of other arrays, from left to right
abbrev pub shared_by : (ArrayId → Bool) → Formula → List Place
shared_by writes f = filter (λ (p : Place). writes p.array) (reads f)

abbrev pub others_by : (ArrayId → Bool) → List (List ℤ) → Formula → List ℤ
others_by writes x f = map (word_of x) (filter (λ (p : Place). not (writes p.array)) (reads f))

abbrev pub read_of : Place → Action
read_of p = Read false (cell_of p)

abbrev pub write_of : ℕ → Effect → List Action
write_of at (Sets p) = Write false (cell_of p) at ∷ []
write_of at (Keeps local) = []

-- the reads of written arrays, and then the write
abbrev pub actions_of : (ArrayId → Bool) → ℕ → Instance → List Action
actions_of writes at s = map read_of (shared_by writes s.value) ++ write_of at s.effect

-- instances that are numbered from this number on among the worker's
abbrev pub planned : (ArrayId → Bool) → ℕ → List Instance → List Action
planned writes at [] = []
planned writes at (s ∷ more) = actions_of writes at s ++ planned writes (suc at) more

abbrev pub look_of : Wait → Action
look_of wait = Look wait.worker wait.count

-- the first action of a row says so
abbrev pub beginning : Action → Action
beginning (Look worker count) = Look worker count
beginning (Read begins cell) = Read true cell
beginning (Write begins cell at) = Write true cell at
beginning Finish = Finish

abbrev pub begun : List Action → List Action
begun [] = []
begun (a ∷ more) = beginning a ∷ more
