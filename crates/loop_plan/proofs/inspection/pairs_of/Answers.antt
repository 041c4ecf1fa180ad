use Rattle.std.proofs.Common.{◌≡◌, List, Contains, sym, subst}
use Rattle.std.specs.Prelude.{Result, Ok, Err, Vec, IfOk}
use Rattle.std.specs.List.{All}
use Rattle.std.specs.declared.alloc.Global.{Global}
use Rattle.wave_base.specs.declared.types.Memory.{Memory}
use Rattle.wave_base.specs.declared.types.RowId.{RowId}
use Rattle.loop_core.specs.declared.nest.Nest.{Nest}
use Rattle.loop_core.specs.Lists.{Lists}
use Rattle.uf_constraints.specs.declared.system.Relation.{Relation}
use Rattle.inspector_run.specs.declared.plan.InspOp.{InspOp}
use Rattle.inspector_run.specs.Pairs.{emitted}
use Rattle.inspector_gen.specs.Own.{Inspects}
use Rattle.loop_plan.specs.Kept.{ArePairsOf, IsEarlier, IsOfRows}
use Rattle.loop_plan.proofs.inspection.pairs_of.Goals as goal

pub pairs_split-requires-clause-ascending : goal.pairs_split-requires-clause-ascending
pairs_split-requires-clause-ascending g c κs within = (c.in_ok-plan.ensures.pairs c.args.arrays.now c.requires.lengths c.requires.passes).ascending

of_split : (nest : Nest) (r : Relation) (a : Lists) (ops : List InspOp) → Inspects nest r a ops → (found : Result (Vec (RowId × RowId) Global) Memory)
    → IfOk found (λ p. p.items ≡ emitted a ops) → IfOk found (λ p. All IsEarlier p.items) → IfOk found (λ p. All (IsOfRows a.n) p.items) → IfOk found (λ p. ArePairsOf nest a r p.items)
of_split nest r a ops inspects (Ok p) is earlier rows = record {
  same = λ i j. (
    λ h. (inspects.pairs i.0 j.0).0 (subst (λ (l : List (RowId × RowId)). Contains l (i, j)) is h),
    λ h. subst (λ (l : List (RowId × RowId)). Contains l (i, j)) (sym is) ((inspects.pairs i.0 j.0).1 h),
  );
  earlier = earlier;
  rows = rows;
}
of_split nest r a ops inspects (Err e) is earlier rows = tt

pub returns : goal.returns
returns g c =
    of_split c.args.nest.now c.args.relation.now c.args.arrays.now c.in_ok-plan.plan.ops (c.in_ok-plan.ensures.pairs c.args.arrays.now c.requires.lengths c.requires.passes) c.pairs_split.result
    c.pairs_split.ensures.emitted c.pairs_split.ensures.earlier c.pairs_split.ensures.rows
