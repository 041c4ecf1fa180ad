-- The closure of a relation's own system, and what operations that inspect a relation do.
use Rattle.std.specs.Prelude.{◌≡◌, ◌↔◌, ℕ, false, List, []}
use Rattle.std.specs.List.{All, Contains}
use Rattle.loop_core.specs.declared.nest.Nest.{Nest}
use Rattle.loop_core.specs.Lists.{Lists}
use Rattle.loop_core.specs.IsNest.{IsNest}
use Rattle.uf_constraints.specs.declared.system.Relation.{Relation}
use Rattle.uf_constraints.specs.Pairs.{Pairs}
use Rattle.uf_constraints.specs.Relations.{relations}
use Rattle.uf_constraints.specs.Universe.{atoms_due}
use Rattle.index_props.specs.Rules.{instances_of}
use Rattle.bound_close.specs.Closure.{Found as Closed, IsClosure}
use Rattle.inspector_run.specs.declared.plan.InspOp.{InspOp}
use Rattle.inspector_run.specs.Pairs.{emitted}
use Rattle.inspector_run.specs.Ready.{SearchesAscending}
use Rattle.inspector_gen.specs.Derived.{rows}

-- the relation is one of an accepted nest, and the closure is that of its own system, which doesn't contradict itself
pub record IsOwn (nest : Nest) (r : Relation) (k : Closed) : Type 0 where
  pub is_nest : IsNest nest
  pub listed : Contains (relations nest) r
  pub atoms : k.atoms ≡ atoms_due r.base [] nest.props
  pub closure : IsClosure k r.base (instances_of nest.decls nest.props k.atoms)
  pub consistent : k.refuted ≡ false

-- the operations inspect the relation over these arrays: an array that they search ascends, and they emit rows i and j
-- just where the relation has the two as a pair
pub record Inspects (nest : Nest) (r : Relation) (a : Lists) (ops : List InspOp) : Type 0 where
  pub ascending : All (SearchesAscending a) ops
  pub pairs : (i j : ℕ) → Contains (emitted a ops) (rows i j) ↔ Pairs nest.line r a i j
