use Rattle.std.proofs.Common.{◌≡◌, ◌+◌, ◌≤◌, ◌∙◌, ℕ, List, map, ap, sym, subst, arith}
use Rattle.wave_base.specs.declared.types.RowId.{RowId}
use Rattle.wave_levels.specs.Levels.{above, level_at}
use Rattle.row_graph.specs.Predecessors.{before}
use Rattle.wave_levels.proofs.Rising.{LevelsSoFar, levels_more, row_above}
use Rattle.wave_levels.proofs.plain.levels_by_trial.Goals as goal
use Rattle.wave_levels.proofs.plain.levels_by_trial.Goals.{After-as_slice-in-loop-row}

-- the numbers that are tried against are the levels of the rows before
tried : (c : After-as_slice-in-loop-row) → c.as_slice-in-loop-row.result.now ≡ map (level_at c.loop-row.levels.items) (before c.args.preds.now c.loop-row.row)
tried c =
    let so_far = c.loop-row.levels.items in
    c.as_slice-in-loop-row.ensures.value ∙ c.in_ok-before.ensures ∙ ap (λ (ls : List ℕ). map (level_at ls) c.before-in-loop-row.result.now) c.as_slice.ensures.value ∙ ap (λ (rows : List RowId). map (level_at so_far) rows) c.before-in-loop-row.ensures.rows

pub first_above-requires : goal.first_above-requires
first_above-requires c =
    let low = row_above c.args.preds.now c.loop-row.row c.loop-row.levels.items c.loop-row.invariant in
    subst (λ (numbers : List ℕ). above numbers ≤ c.loop-row.row) (sym (tried c)) low

pub loop-row-preserved : goal.loop-row-preserved
loop-row-preserved c =
    let graph = c.args.preds.now in
    let so_far = c.loop-row.levels.items in
    let row = c.loop-row.row in
    let is : c.first_above.result ≡ above (map (level_at so_far) (before graph row)) =
    c.first_above.ensures ∙ ap above (tried (goal.at.loop-row-preserved c).After-as_slice-in-loop-row) in
    let small : c.first_above.result ≤ row = omega (arith, is, row_above graph row so_far c.loop-row.invariant) in
    subst (λ (levels : List ℕ). LevelsSoFar graph (row + 1) levels) (sym c.in_ok-push.ensures.items) (levels_more graph row so_far c.first_above.result c.loop-row.invariant is small)
