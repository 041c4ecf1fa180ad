use Rattle.std.proofs.Common.{◌≡◌, ◌+◌, ◌∙◌, ℕ, List, sym, subst, rules}
use Rattle.wave_base.specs.declared.types.RowId.{RowId}
use Rattle.wait_sparsify.specs.Searched.{AreSelected, IsNeeded}
use Rattle.wait_sparsify.proofs.Searching.{selected_skip, selected_take}
use Rattle.wait_sparsify.proofs.plain.needed_by.Goals as goal
use Rattle.wait_sparsify.proofs.plain.needed_by.Goals.{then-is_needed+in_ok-push, else-is_needed}

pub loop-first-preserved : goal.loop-first-preserved
loop-first-preserved c =
    let P : ℕ → Type 0 = IsNeeded c.args.cross.now c.args.owners.now c.args.task in
    let first = c.loop-first.first in
    elim c.if-is_needed.branch [
      | then-is_needed+in_ok-push w ↦
          let more = selected_take P first c.loop-first.firsts.items c.loop-first.invariant (c.is_needed.ensures.0 (search rules)) in
          let e : c.if-is_needed.firsts.items ≡ w.push.new.self.items = search rules in
          subst (λ (rows : List RowId). AreSelected P (first + 1) rows) (sym (e ∙ w.in_ok-push.ensures.items)) more
      | else-is_needed w ↦
          let more = selected_skip P first c.loop-first.firsts.items c.loop-first.invariant (λ h. (let t = c.is_needed.ensures.1 h in absurd (search rules))) in
          let e : c.if-is_needed.firsts.items ≡ c.loop-first.firsts.items = search rules in
          subst (λ (rows : List RowId). AreSelected P (first + 1) rows) (sym e) more
    ]
