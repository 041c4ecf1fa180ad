use Rattle.std.proofs.Common.{◌≡◌, ◌+◌, ◌<◌, ◌≤◌, ◌∙◌, ◌-◌, List, Contains, length, ap, sym, subst, arith}
use Rattle.std.proofs.lemmas.List.{get_or_read}
use Rattle.std.proofs.lemmas.List.Elements.{All-contains}
use Rattle.wave_base.specs.declared.types.RowId.{RowId}
use Rattle.row_graph.specs.Rows.{row_zero}
use Rattle.row_graph.specs.Predecessors.{before}
use Rattle.wave_levels.specs.Levels.{level_at}
use Rattle.wave_levels.specs.Chains.{at_place}
use Rattle.wave_levels.proofs.Longest.{level_below}
use Rattle.wave_levels.proofs.Backward.{chain_more}
use Rattle.wave_levels.proofs.chains.chain_to.Goals as goal
use Rattle.wave_levels.proofs.chains.chain_to.Goals.{After-before-in-loop-back}

-- the rows that are searched are those before the row that was found last
searched : (c : After-before-in-loop-back) → c.before-in-loop-back.result.now ≡ before c.args.preds.now (at_place c.loop-back.rows.items (c.count-count.result - 1 - c.loop-back.back + 1)).0
searched c =
    let rows = c.loop-back.rows.items in
    let level = c.count-count.result - 1 - c.loop-back.back in
    let lt : level + 1 < length rows = omega (arith, c.loop-back.invariant.full, c.count-count.ensures, c.loop-back.auto.back) in
    let next_is = get_or_read rows (level + 1) c.index-next.result.now lt c.index-next.ensures row_zero in
    c.before-in-loop-back.ensures.rows ∙ ap (λ (r : RowId). before c.args.preds.now r.0) next_is

pub least_of_level-requires-clause-some : goal.least_of_level-requires-clause-some
least_of_level-requires-clause-some c =
    let inv = c.loop-back.invariant in
    let rows = c.loop-back.rows.items in
    let level = c.count-count.result - 1 - c.loop-back.back in
    let lt : level + 1 < length rows = omega (arith, inv.full, c.count-count.ensures, c.loop-back.auto.back) in
    let from : length rows ≤ level + 1 + c.loop-back.back = omega (arith, inv.full, c.count-count.ensures) in
    let at = inv.level_is (level + 1) lt from in
    let within = inv.within (level + 1) lt from in
    let low : (at_place rows (level + 1)).0 < length c.args.preds.now = omega (arith, within, c.requires.levels.0) in
    let some = level_below c.args.preds.now c.args.levels.now c.requires.levels (at_place rows (level + 1)).0 level low at in
    subst (λ (rows : List RowId). (i : RowId) × Contains rows i × (level_at c.args.levels.now i ≡ level)) (sym (searched c)) some

pub loop-back-preserved : goal.loop-back-preserved
loop-back-preserved c =
    let inv = c.loop-back.invariant in
    let graph = c.args.preds.now in
    let levels = c.args.levels.now in
    let rows = c.loop-back.rows.items in
    let level = c.count-count.result - 1 - c.loop-back.back in
    let row = c.least_of_level.result in
    let found = searched (goal.at.loop-back-preserved c).After-before-in-loop-back in
    let is : level + 1 + c.loop-back.back ≡ length rows = omega (arith, inv.full, c.count-count.ensures) in
    let one = subst (λ (rows : List RowId). Contains rows row) found c.least_of_level.ensures.one in
    let next = c.index-next.result.now in
    let lt : level + 1 < length rows = omega (arith, inv.full, c.count-count.ensures, c.loop-back.auto.back) in
    let next_is = ap (λ (r : RowId). r.0) (get_or_read rows (level + 1) next lt c.index-next.ensures row_zero) in
    let within = inv.within (level + 1) lt (omega (arith, is)) in
    let below = All-contains (λ (r : RowId). r.0 < next.0) c.before-in-loop-back.result.now row c.before-in-loop-back.ensures.lesser c.least_of_level.ensures.one in
    let low : row.0 < length levels = omega (arith, next_is, within, below) in
    chain_more graph levels c.loop-back.back c.args.last rows inv level is (omega (arith, c.loop-back.auto.back)) row one c.least_of_level.ensures.level low
    (λ i m e. c.least_of_level.ensures.least i (subst (λ (rows : List RowId). Contains rows i) (sym found) m) e)
