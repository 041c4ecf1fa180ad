use Rattle.std.proofs.Common.{◌<◌, ◌++◌, ◌∙◌, List, All, length, ap, sym, subst}
use Rattle.std.specs.List.{range_with_len, flat_map}
use Rattle.wave_base.specs.declared.types.RowId.{RowId}
use Rattle.sched_types.specs.declared.sched.RowTask.{RowTask}
use Rattle.super_tasks.specs.Shares.{share, task_of, task_at}
use Rattle.super_tasks.proofs.Searching.{tasks_more}
use Rattle.super_tasks.proofs.Weighing.{rows_at-within}
use Rattle.super_tasks.proofs.plain.worker_list.Goals as goal

pub rows_for-requires-clause-weighed : goal.rows_for-requires-clause-weighed
rows_for-requires-clause-weighed c =
    subst (λ (rows : List RowId). All (λ (r : RowId). r.0 < length c.args.weights.now) rows) (sym c.rows.ensures.rows) (rows_at-within c.args.levels.now c.args.weights.now c.loop-level.level c.requires.weights)

pub loop-level-preserved : goal.loop-level-preserved
loop-level-preserved c =
    let levels = c.args.levels.now in
    let weights = c.args.weights.now in
    let workers = c.args.workers in
    let worker = c.args.worker in
    let level = c.loop-level.level in
    let more = tasks_more levels weights workers worker level in
    let rows = c.in_ok-rows.ensures ∙ ap (λ (rows : List RowId). share weights workers rows worker) c.rows.ensures.rows in
    c.in_ok-push_task.ensures ∙ ap (λ (ts : List RowTask). ts ++ task_of level c.in_ok-rows.rows.items) c.loop-level.invariant ∙ ap (λ (rs : List RowId). flat_map (task_at levels weights workers worker) (range_with_len 0 level) ++ task_of level rs) rows ∙ sym more
