use Rattle.std.proofs.Common.{◌≡◌, ◌≤◌, ◌+◌, ◌∙◌, ℕ, List, map, ap, sym, subst, arith}
use Rattle.wave_levels.specs.Levels.{above, level_at}
use Rattle.row_graph.specs.Predecessors.{before}
use Rattle.wave_levels.proofs.Rising.{LevelsSoFar, levels_more}
use Rattle.wave_levels.proofs.each.level_of_each.Goals as goal

pub loop-row-preserved : goal.loop-row-preserved
loop-row-preserved c =
    let graph = c.args.preds.now in
    let so_far = c.loop-row.levels.items in
    let row = c.loop-row.row in
    let level = c.level_above-level in
    let is : level.result ≡ above (map (level_at so_far) (before graph row)) =
    level.ensures.level ∙ ap (λ ls. above (map (level_at ls) c.before-in-loop-row.result.now)) c.as_slice.ensures.value ∙ ap (λ rows. above (map (level_at so_far) rows)) c.before-in-loop-row.ensures.rows in
    let small : level.result ≤ row = omega (arith, level.ensures.low, c.as_slice.ensures.len, c.loop-row.invariant.many, c.loop-row.levels.ok.0) in
    let more = levels_more graph row so_far level.result c.loop-row.invariant is small in
    subst (λ (levels : List ℕ). LevelsSoFar graph (row + 1) levels) (sym c.in_ok-push.ensures.items) more
