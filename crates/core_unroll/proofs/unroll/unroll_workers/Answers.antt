use Rattle.std.proofs.Common.{◌≡◌, ℕ, ◌+◌, ◌≤◌, List, [], ◌∷◌, ◌++◌, length, get_or, sym, ap, subst, ◌∙◌, arith}
use Rattle.sched_types.specs.declared.sched.Task.{Task}
use Rattle.core_book.specs.declared.book.How.{How}
use Rattle.core_run.specs.declared.action.Action.{Action}
use Rattle.core_unroll.specs.declared.unrolling.Unrolling.{Unrolling}
use Rattle.core_unroll.specs.Advances.{TasksAdvance, AreUnrolled}
use Rattle.core_unroll.proofs.Whole.{same_at, worker_more}
use Rattle.core_unroll.proofs.unroll.unroll_workers.Goals as goal

pub loop-list-init : goal.loop-list-init
loop-list-init c =
    let scripts : ◌≡◌ {A = List (List Action)} c.in_ok-with_capacity.field-0.items [] = c.in_ok-with_capacity.ensures.items in
    let hows : ◌≡◌ {A = List (List How)} c.in_ok-with_capacity-2.field-0.items [] = c.in_ok-with_capacity-2.ensures.items in (
      omega arith,
      λ x first.
          let P : List (List Action) × List (List How) → Type 0 = λ q. AreUnrolled c.args.nest.now c.args.arrays.now x c.args.tasks.now c.args.unrolling.now 0 q.0 q.1 in
          subst P (λ i. (sym scripts i, sym hows i)) first,
    )

pub loop-list-preserved : goal.loop-list-preserved
loop-list-preserved c =
    let nest = c.args.nest.now in
    let a = c.args.arrays.now in
    let tasks : List (List Task) = c.args.tasks.now in
    let k : ℕ = c.loop-list.list-index in
    let u : Unrolling = c.loop-list.unrolling in
    let v : Unrolling = c.unroll_tasks.new.self in
    let z : Unrolling = c.take_worker-made.new.self in
    let made = c.take_worker-made.ensures in
    let scripts : List (List Action) = c.loop-list.workers.scripts.items in
    let hows : List (List How) = c.loop-list.workers.hows.items in
    let here : c.as_slice.result.now ≡ get_or tasks k [] = c.as_slice.ensures ∙ (c.list-item.is ∙ same_at tasks k c.list-item.result [] c.loop-list-test.true) in
    let added : ◌≡◌ {A = List (List Action)} c.add.new.self.scripts.items (scripts ++ v.actions.items ∷ []) = c.in_ok-add.ensures.scripts ∙ ap (λ (l : List Action). scripts ++ l ∷ []) made.script in
    let added_hows : ◌≡◌ {A = List (List How)} c.add.new.self.hows.items (hows ++ v.hows.items ∷ []) = c.in_ok-add.ensures.hows ∙ ap (λ (l : List How). hows ++ l ∷ []) made.hows in
    let next : k + 1 ≤ length tasks = omega arith in (
      next,
      λ x first.
          let P : List (List Action) × List (List How) → Type 0 = λ q. AreUnrolled nest a x tasks z (k + 1) q.0 q.1 in
          subst P (λ i. (sym added i, sym added_hows i))
          (worker_more nest a x tasks u v z k scripts hows c.loop-list-test.true (c.loop-list.invariant.1 x first)
          (subst (λ (ts : List Task). TasksAdvance nest a ts u v) here c.in_ok-unroll_tasks.ensures)
          made.no_actions made.no_hows made.book made.values made.room),
    )

pub returns : goal.returns
returns c =
    let inside = c.loop-list.invariant.0 in
    let past = c.loop-list-test.false in
    let all : c.loop-list.list-index ≡ length c.args.tasks.now = omega arith in
    λ x first. subst (λ (k : ℕ). AreUnrolled c.args.nest.now c.args.arrays.now x c.args.tasks.now c.loop-list.unrolling k c.loop-list.workers.scripts.items c.loop-list.workers.hows.items) all (c.loop-list.invariant.1 x first)
