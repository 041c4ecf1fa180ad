use Rattle.std.proofs.Common.{◌≡◌, ℤ, List, [], length, replicate, sym, ap, subst, ◌∙◌}
use Rattle.sched_types.specs.declared.sched.Task.{Task}
use Rattle.core_law.specs.Machine.{stand}
use Rattle.core_book.specs.declared.book.How.{How}
use Rattle.core_run.specs.declared.action.Action.{Action}
use Rattle.core_unroll.specs.declared.unrolling.Unrolling.{Unrolling}
use Rattle.core_unroll.specs.Advances.{AreUnrolled}
use Rattle.core_unroll.proofs.Whole.{is_of, begins, none_yet}
use Rattle.core_unroll.proofs.unroll.unroll.Goals as goal

all_of : (c : goal.In_ok-core) → AreUnrolled c.args.nest.now c.args.arrays.now c.args.values.now c.args.sched.now.workers c.unroll_workers.new.unrolling (length c.args.sched.now.workers) c.in_ok-core.core.scripts.items c.in_ok-core.core.hows.items
all_of c =
    let nest = c.args.nest.now in
    let a = c.args.arrays.now in
    let x : List (List ℤ) = c.args.values.now in
    let workers : List (List Task) = c.args.sched.now.workers in
    let u : Unrolling = c.in_ok-unrolling.unrolling in
    let v : Unrolling = c.unroll_workers.new.unrolling in
    let is : c.as_slice-tasks.result.now ≡ workers = c.as_slice-tasks.ensures in
    let first = none_yet nest a x workers u (record { fit = c.requires; values = c.in_ok-unrolling.ensures.values; written = c.in_ok-unrolling.ensures.written c.requires.is_nest })
    c.in_ok-unrolling.ensures.actions c.in_ok-unrolling.ensures.instances in
    let all = c.in_ok-workers.ensures x (subst (λ (ws : List (List Task)). AreUnrolled nest a x ws u 0 [] []) (sym is) first) in
    let here = subst (λ (ws : List (List Task)). AreUnrolled nest a x ws v (length ws) c.in_ok-workers.workers.scripts.items c.in_ok-workers.workers.hows.items) is all in
    let P : List (List Action) × List (List How) → Type 0 = λ q. AreUnrolled nest a x workers v (length workers) q.0 q.1 in
    subst P (λ i. (sym c.in_ok-core.ensures.scripts i, sym c.in_ok-core.ensures.hows i)) here

pub returns-clause-of : goal.returns-clause-of
returns-clause-of c = is_of c.args.nest.now c.args.arrays.now c.args.values.now c.args.sched.now.workers c.unroll_workers.new.unrolling c.in_ok-core.core (all_of c) c.in_ok-core.ensures.book c.in_ok-core.ensures.room

pub returns-clause-begins : goal.returns-clause-begins
returns-clause-begins c =
    let long = ap (λ (ws : List (List Task)). length ws) c.as_slice-tasks.ensures in
    begins c.args.nest.now c.args.arrays.now c.args.values.now c.args.sched.now.workers c.in_ok-core.core
    (c.in_ok-core.ensures.values ∙ (all_of c).ready.values)
    (c.in_ok-core.ensures.counts ∙ ap (λ n. replicate n 0) long)
    (c.in_ok-core.ensures.stands ∙ ap (λ n. replicate n (stand 0 [])) long)
