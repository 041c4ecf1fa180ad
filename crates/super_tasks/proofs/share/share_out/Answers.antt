use Rattle.std.proofs.Common.{◌≡◌, ◌*◌, ◌/◌, ◌<◌, ◌≤◌, ◌++◌, ◌∷◌, ◌∙◌, ℕ, inl, inr, List, [], length, get_or, set, arith, ap, sym, subst, rules}
use Rattle.std.specs.List.{between}
use Rattle.std.proofs.lemmas.Bool.{cases_lt}
use Rattle.std.proofs.lemmas.List.{get_or_read}
use Rattle.wave_base.specs.declared.types.RowId.{RowId}
use Rattle.sched_types.specs.declared.sched.RowTask.{RowTask}
use Rattle.super_tasks.specs.Shares.{weight_of, worker_at, share, task_of}
use Rattle.super_tasks.proofs.Sharing.{Sharing, sharing_more, sharing_end}
use Rattle.super_tasks.proofs.Weighing.{weighed, weight_of-below, weight_of-some, end_before, end_from}
use Rattle.super_tasks.proofs.share.share_out.Goals as goal

pub worker_of-worker-requires-clause-before : goal.worker_of-worker-requires-clause-before
worker_of-worker-requires-clause-before c =
    let weights = c.args.weights.now in
    let rows = c.args.rows.now in
    let are = weighed weights rows c.requires.weights c.requires.weighed in
    omega (arith, weight_of-below weights rows are c.loop-at.at c.loop-at-test.true, c.loop-at.invariant.weighs, c.total_of-total.ensures)

pub limit_of-requires-clause-some : goal.limit_of-requires-clause-some
limit_of-requires-clause-some c =
    let weights = c.args.weights.now in
    let rows = c.args.rows.now in
    let are = weighed weights rows c.requires.weights c.requires.weighed in
    omega (arith, weight_of-below weights rows are c.loop-at.at c.loop-at-test.true, c.total_of-total.ensures)

pub end_of-end-requires-clause-short : goal.end_of-end-requires-clause-short
end_of-end-requires-clause-short c =
    let before = c.loop-at.before in
    let limit = c.limit_of.result in
    elim (cases_lt before limit) as (λ _. before < limit) [
      | inl l ↦ l
      | inr g ↦ absurd (omega (arith, c.limit_of.ensures.from before g, c.worker_of-worker.ensures.worker))
    ]

pub end_of-end-requires-clause-limit : goal.end_of-end-requires-clause-limit
end_of-end-requires-clause-limit c = omega (arith, c.limit_of.ensures.within, c.total_of-total.ensures)

pub loop-at-preserved : goal.loop-at-preserved
loop-at-preserved c =
    let old = c.args.lists.now.items in
    let rows = c.args.rows.now in
    let weights = c.args.weights.now in
    let new = c.loop-at.lists.items in
    let at = c.loop-at.at in
    let before = c.loop-at.before in
    let worker = c.worker_of-worker.result in
    let end = c.end_of-end.result.at in
    let limit = c.limit_of.result in
    let level = c.args.level in
    let n : c.len-workers.result ≡ length old = c.len-workers.ensures ∙ c.args.lists.now.ok.0 in
    let total : c.total_of-total.result ≡ weight_of weights rows = c.total_of-total.ensures in
    let are = weighed weights rows c.requires.weights c.requires.weighed in
    let some = weight_of-some weights rows are (omega (arith, c.loop-at-test.true)) in
    let below : worker < length old = search rules in
    let place : before * c.len-workers.result / c.total_of-total.result ≡ worker_at weights (length old) rows at = λ x. c.loop-at.invariant.weighs x * n x / total x in
    let is : worker ≡ worker_at weights (length old) rows at = c.worker_of-worker.ensures.worker ∙ place in
    let low = subst (λ (t : ℕ). (b : ℕ) → b < limit → b * length old / t ≤ worker) total (subst (λ (k : ℕ). (b : ℕ) → b < limit → b * k / c.total_of-total.result ≤ worker) n c.limit_of.ensures.before) in
    let high = subst (λ (t : ℕ). (b : ℕ) → limit ≤ b → worker < b * length old / t) total (subst (λ (k : ℕ). (b : ℕ) → limit ≤ b → worker < b * k / c.total_of-total.result) n c.limit_of.ensures.from) in
    let earlier = end_before weights (length old) rows at end worker limit some is low high c.end_of-end.ensures.passed in
    let reached = subst (λ (b : ℕ). limit ≤ b) c.end_of-end.ensures.before c.end_of-end.ensures.reached in
    let later = end_from weights (length old) rows at end worker limit some is low high reached in
    let more = sharing_more weights old level rows at before new c.loop-at.invariant some worker end is below c.end_of-end.ensures.within earlier later in
    let had = get_or_read new worker c.index_mut-list.result.now (search rules) c.index_mut-list.ensures.value [] in
    let pushed : c.push.new.self ≡ get_or new worker [] ++ (record { level = level; rows = between at end rows }) ∷ [] =
    c.in_ok-push.ensures.ok ∙ ap (λ (ts : List RowTask). ts ++ (record { level = level; rows = c.in_ok-from_slice.field-0 }) ∷ []) had ∙ ap (λ (rs : List RowId). get_or new worker [] ++ (record { level = level; rows = rs }) ∷ []) c.in_ok-from_slice.ensures in
    let weighs = subst (λ (b : ℕ). Sharing weights old level rows end b (set new worker (get_or new worker [] ++ (record { level = level; rows = between at end rows }) ∷ []))) (sym c.end_of-end.ensures.before) more in
    subst (λ (ts : List RowTask). Sharing weights old level rows end c.end_of-end.result.before (set new worker ts)) (sym pushed) weighs

pub returns-clause-shares : goal.returns-clause-shares
returns-clause-shares c =
    let n = c.args.lists.now.ok.0 in
    let rows = c.args.rows.now in
    let weights = c.args.weights.now in
    let are = weighed weights rows c.requires.weights c.requires.weighed in
    subst (λ (n : ℕ). (w : ℕ) → w < n → get_or c.loop-at.lists.items w [] ≡ get_or c.args.lists.now.items w [] ++ task_of c.args.level (share weights n rows w)) (sym n)
    (sharing_end weights c.args.lists.now.items c.args.level rows c.loop-at.at c.loop-at.before c.loop-at.lists.items are c.loop-at.invariant c.loop-at-test.false)
