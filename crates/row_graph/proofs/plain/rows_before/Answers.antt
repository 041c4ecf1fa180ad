use Rattle.std.proofs.Common.{◌≡◌, ◌+◌, ◌∙◌, ℕ, List, sym, subst, arith, rules}
use Rattle.wave_base.specs.declared.types.RowId.{RowId}
use Rattle.row_graph.proofs.PlainGraph.{RowsSoFar, rows_skip, rows_take, rows_all}
use Rattle.row_graph.proofs.plain.rows_before.Goals as goal
use Rattle.row_graph.proofs.plain.rows_before.Goals.{then-has_pair+in_ok-push, else-has_pair}

pub loop-first-preserved : goal.loop-first-preserved
loop-first-preserved c =
    let pairs = c.args.pairs.now in
    let first = c.loop-first.first in
    elim c.if-has_pair.branch [
      | then-has_pair+in_ok-push w ↦
          let more = rows_take pairs c.args.row first c.loop-first.rows.items c.loop-first.invariant (c.has_pair.ensures.0 (search rules)) in
          let e : c.if-has_pair.rows.items ≡ w.push.new.self.items = search rules in
          subst (λ (rows : List RowId). RowsSoFar pairs c.args.row (first + 1) rows) (sym (e ∙ w.in_ok-push.ensures.items)) more
      | else-has_pair w ↦
          let more = rows_skip pairs c.args.row first c.loop-first.rows.items c.loop-first.invariant (λ h. (let t = c.has_pair.ensures.1 h in absurd (search rules))) in
          let e : c.if-has_pair.rows.items ≡ c.loop-first.rows.items = search rules in
          subst (λ (rows : List RowId). RowsSoFar pairs c.args.row (first + 1) rows) (sym e) more
    ]

pub returns : goal.returns
returns c =
    let e : c.loop-first.first ≡ c.args.row.0 = omega arith in
    rows_all c.args.pairs.now c.args.row c.loop-first.rows.items c.requires (subst (λ (n : ℕ). RowsSoFar c.args.pairs.now c.args.row n c.loop-first.rows.items) e c.loop-first.invariant)
