-- The plain plan of a relation: all of its variables are looped.
use Rattle.std.specs.Prelude.{List}
use Rattle.loop_core.specs.declared.nest.Nest.{Nest}
use Rattle.loop_core.specs.declared.nest.VarId.{VarId}
use Rattle.uf_constraints.specs.declared.system.Relation.{Relation}
use Rattle.inspector_run.specs.declared.plan.InspOp.{InspOp}
use Rattle.inspector_gen.specs.declared.kind.Kind.{Kind}
use Rattle.inspector_gen.specs.declared.kind.Kind.TheVariants.{Looped}
use Rattle.inspector_gen.specs.Variables.{first_side_first}
use Rattle.inspector_gen.specs.Plans.{plan_in}

abbrev pub looped : List VarId → VarId → Kind
looped earlier v = Looped

-- the first side's variables before the second's
abbrev pub plain_plan_of : Nest → Relation → List InspOp
plain_plan_of nest r = plan_in looped nest r (first_side_first nest r)
