-- The rows as rows of plain instances: the value of an instance comes from all that its row has read so far.
use Rattle.std.specs.Prelude.{ℕ, ℤ, List, [], ◌∷◌, ◌++◌, map, take, drop, length, Option, Some, None}
use Rattle.wave_base.specs.declared.types.Cell.{Cell}
use Rattle.core_law.specs.Works.{Instance as PlainInstance, Work}
use Rattle.core_rows.specs.Deeds.{Effect, Sets, Keeps, Deed, RowWork}
use Rattle.core_rows.specs.Locals.{kept_by, zeros}

-- the value of an instance where those before it in its row are applied to these locals first, and each read takes its register
abbrev pub replayed : List Deed → Deed → List ℤ → List ℤ → ℤ
replayed [] d locals registers = d.value locals (take (length d.reads) registers)
replayed (e ∷ more) d locals registers =
    replayed more d (kept_by e.effect locals (e.value locals (take (length e.reads) registers))) (drop (length e.reads) registers)

abbrev pub target_of : Effect → Option Cell
target_of (Sets cell) = Some cell
target_of (Keeps local) = None

abbrev pub instance_of : ℕ → List Deed → Deed → PlainInstance
instance_of n earlier d = record { reads = d.reads; target = target_of d.effect; value = replayed earlier d (zeros n) }

-- the instances that come after the earlier ones
abbrev pub instances_after : ℕ → List Deed → List Deed → List PlainInstance
instances_after n earlier [] = []
instances_after n earlier (d ∷ more) = instance_of n earlier d ∷ instances_after n (earlier ++ d ∷ []) more

abbrev pub work_of : RowWork → Work
work_of r = record { rows = map (instances_after r.locals []) r.rows; workers = r.workers; start = r.start }
