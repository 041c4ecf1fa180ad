use Rattle.std.proofs.Common.{List, ◌++◌, map, refl, ap, subst, ◌∙◌}
use Rattle.wave_base.specs.declared.types.RowId.{RowId}
use Rattle.sched_types.specs.declared.lists.Wait.{Wait}
use Rattle.core_unroll.specs.declared.unrolling.Unrolling.{Unrolling}
use Rattle.core_unroll.specs.Plans.{look_of}
use Rattle.core_unroll.specs.Advances.{RowsAdvance}
use Rattle.core_unroll.proofs.Going.{task_advances}
use Rattle.core_unroll.proofs.unrolling.Unrolling.unroll_task.Goals as goal

pub returns : goal.returns
returns c =
    let u : Unrolling = c.args.self.now in
    let p : Unrolling = record u { actions = c.list_looks.new.actions } in
    let q : Unrolling = c.unroll_rows.new.self in
    let v : Unrolling = record q { actions = c.push.new.self } in
    task_advances c.args.nest.now c.args.arrays.now c.args.task.now u p q v
    (c.in_ok-list_looks.ensures ∙ ap (λ (ws : List Wait). u.actions.items ++ map look_of ws) c.as_slice.ensures) refl refl refl refl
    (subst (λ (rs : List RowId). RowsAdvance c.args.nest.now c.args.arrays.now rs p q) c.as_slice-2.ensures c.in_ok-unroll_rows.ensures)
    c.in_ok-push.ensures.items refl refl refl refl
