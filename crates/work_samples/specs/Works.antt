-- What the work of texts is.
use Rattle.std.specs.Prelude.{◌≡◌, ℕ, ℤ, List, Ok}
use Rattle.loop_core.specs.declared.decl.Decl.{Decl}
use Rattle.csr_arrays.specs.Axes.{Triple}
use Rattle.mtx_read.specs.Files.{matrix}
use Rattle.array_bind.specs.declared.bind.Bound.{Bound}
use Rattle.array_bind.specs.Lists.{bound_of}
use Rattle.plan_build.specs.declared.build.Built.{Built}
use Rattle.loop_plan.specs.Planned.{IsPlanOf}
use Rattle.core_machine.specs.declared.work.Work.{Work}

-- the text is a matrix, and the arrays are those of the declarations over it and the files
pub record AreBound (decls : List Decl) (text : List ℕ) (files : List (List ℤ)) (bound : Bound) : Type 0 where
  pub rows : ℕ
  pub columns : ℕ
  pub entries : List Triple
  pub is_read : matrix text ≡ Ok (rows, columns, entries)
  pub are : bound ≡ bound_of decls rows entries files

abbrev pub AreArrays : List ℕ → List (List ℤ) → Work → Type 0
AreArrays text files work = AreBound work.nest.decls text files (record { arrays = work.arrays; values = work.values })

-- the schedule is that of the plan of the nest's dependent rows for some workers
pub record IsPlanned (workers : ℕ) (work : Work) : Type 0 where
  pub built : Built
  pub is_plan : IsPlanOf work.nest work.arrays work.values workers built
  pub is_its : work.sched ≡ built.sched
