use Rattle.std.proofs.Common.{◌≡◌, ◌+◌, ◌∙◌, ℕ, List, sym, subst, rules}
use Rattle.wave_base.specs.declared.types.RowId.{RowId}
use Rattle.wait_sparsify.specs.Searched.{AreSelected, Crosses}
use Rattle.wait_sparsify.proofs.Searching.{selected_skip, selected_take}
use Rattle.wait_sparsify.proofs.plain.crossed_with.Goals as goal
use Rattle.wait_sparsify.proofs.plain.crossed_with.Goals.{then-are_crossed+in_ok-push, else-are_crossed}

pub loop-first-preserved : goal.loop-first-preserved
loop-first-preserved c =
    let P : ℕ → Type 0 = Crosses c.args.preds.now c.args.owners.now c.args.rows.now c.args.task in
    let first = c.loop-first.first in
    elim c.if-are_crossed.branch [
      | then-are_crossed+in_ok-push w ↦
          let more = selected_take P first c.loop-first.firsts.items c.loop-first.invariant (c.are_crossed.ensures.0 (search rules)) in
          let e : c.if-are_crossed.firsts.items ≡ w.push.new.self.items = search rules in
          subst (λ (rows : List RowId). AreSelected P (first + 1) rows) (sym (e ∙ w.in_ok-push.ensures.items)) more
      | else-are_crossed w ↦
          let more = selected_skip P first c.loop-first.firsts.items c.loop-first.invariant (λ h. (let t = c.are_crossed.ensures.1 h in absurd (search rules))) in
          let e : c.if-are_crossed.firsts.items ≡ c.loop-first.firsts.items = search rules in
          subst (λ (rows : List RowId). AreSelected P (first + 1) rows) (sym e) more
    ]
