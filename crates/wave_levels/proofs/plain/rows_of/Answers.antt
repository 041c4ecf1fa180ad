use Rattle.std.proofs.Common.{◌≡◌, ◌++◌, ◌∷◌, ◌∙◌, [], true, false, eqb, cond, get_or, ap, sym, rules}
use Rattle.std.proofs.lemmas.List.{append-nil}
use Rattle.std.proofs.lemmas.Bool.{eq-eqb, ne_eqb}
use Rattle.row_graph.specs.Rows.{row}
use Rattle.wave_levels.proofs.Searching.{rows_so_far, rows_more}
use Rattle.wave_levels.proofs.plain.rows_of.Goals as goal
use Rattle.wave_levels.proofs.plain.rows_of.Goals.{then-levels-at+in_ok-push, else-levels-at}

pub loop-at-preserved : goal.loop-at-preserved
loop-at-preserved c =
    let levels = c.args.levels.now in
    let level = c.args.level in
    let at = c.loop-at.at in
    let more = rows_more levels level at in
    elim c.if-levels-at.branch [
      | then-levels-at+in_ok-push w ↦
          let t : eqb (get_or levels at 0) level ≡ true = eq-eqb (get_or levels at 0) level (search rules) in
          let e : c.if-levels-at.rows.items ≡ w.push.new.self.items = search rules in
          e ∙ w.in_ok-push.ensures.items ∙ ap (λ rs. rs ++ (row at) ∷ []) c.loop-at.invariant ∙ sym (more ∙ ap (λ b. rows_so_far levels level at ++ cond b (row at ∷ []) []) t)
      | else-levels-at w ↦
          let f : eqb (get_or levels at 0) level ≡ false = ne_eqb (get_or levels at 0) level (search rules) in
          let e : c.if-levels-at.rows.items ≡ c.loop-at.rows.items = search rules in
          e ∙ c.loop-at.invariant ∙ sym (more ∙ ap (λ b. rows_so_far levels level at ++ cond b (row at ∷ []) []) f ∙ append-nil (rows_so_far levels level at))
    ]
