use Rattle.std.proofs.Common.{◌≡◌, ◌++◌, ◌∷◌, ◌∙◌, ℕ, [], List, map, ap, sym, subst, arith}
use Rattle.std.specs.List.{range_with_len}
use Rattle.std.proofs.lemmas.List.FromFn.{map-range_with_len_more}
use Rattle.sched_types.specs.declared.sched.RowTask.{RowTask}
use Rattle.super_tasks.specs.Shares.{AreEven, worker_tasks}
use Rattle.super_tasks.proofs.Evenness.{groups_even}
use Rattle.super_tasks.proofs.plain.group_by_search.Goals as goal

pub loop-worker-preserved : goal.loop-worker-preserved
loop-worker-preserved c =
    let tasks = worker_tasks c.args.levels.now c.args.weights.now c.args.workers in
    let worker = c.loop-worker.worker in
    let more = map-range_with_len_more tasks 0 worker worker (omega arith) in
    c.in_ok-push.ensures.items ∙ ap (λ (ts : List RowTask). c.loop-worker.lists.items ++ ts ∷ []) c.in_ok-worker_list.ensures ∙ ap (λ (ls : List (List RowTask)). ls ++ (tasks worker) ∷ []) c.loop-worker.invariant ∙ sym more

pub returns-clause-even : goal.returns-clause-even
returns-clause-even c =
    let levels = c.args.levels.now in
    let weights = c.args.weights.now in
    let workers = c.args.workers in
    let end : c.loop-worker.worker ≡ workers = omega (arith, c.loop-worker-test.false, c.loop-worker.auto.worker-end) in
    let e = c.from_vec.ensures ∙ c.loop-worker.invariant ∙ ap (λ (n : ℕ). map (worker_tasks levels weights workers) (range_with_len 0 n)) end in
    subst (AreEven levels weights workers) (sym e) (groups_even levels weights workers c.requires.weights)
