use Rattle.std.proofs.Common.{◌≡◌, ◌+◌, ◌∙◌, ℕ, List, [], get_or, length, sym, subst, arith}
use Rattle.wave_base.specs.declared.types.RowId.{RowId}
use Rattle.wait_sparsify.specs.Searched.{AreSelected, Crosses}
use Rattle.wait_sparsify.proofs.Searching.{ListsSoFar, lists_more}
use Rattle.wait_sparsify.proofs.plain.cross_by_search.Goals as goal

pub loop-task-preserved : goal.loop-task-preserved
loop-task-preserved c =
    let P : ℕ → ℕ → Type 0 = Crosses c.args.preds.now c.args.owners.now c.args.rows.now in
    let top : ℕ = length c.args.rows.now in
    let task = c.loop-task.task in
    let found = subst (λ (rows : List RowId). AreSelected (P task) top rows) (sym c.as_slice.ensures.value) c.in_ok-firsts.ensures in
    subst (λ (lists : List (List RowId)). ListsSoFar P top (task + 1) lists) (sym c.in_ok-cross-2.ensures) (lists_more P top task c.loop-task.cross c.as_slice.result.now c.loop-task.invariant found)

pub returns : goal.returns
returns c =
    let P : ℕ → ℕ → Type 0 = Crosses c.args.preds.now c.args.owners.now c.args.rows.now in
    let e : c.loop-task.task ≡ c.args.many = omega arith in
    (c.loop-task.invariant.long ∙ e, λ l h. subst (λ (n : ℕ). AreSelected (P l) n (get_or c.loop-task.cross l [])) (sym c.requires.many) (c.loop-task.invariant.each l (omega (arith, h, e))))
