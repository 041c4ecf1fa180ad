use Rattle.std.proofs.Common.{◌≡◌, ◌+◌, ◌<◌, ◌≤◌, ◌-◌, Contains, length, ap, sym, subst, arith}
use Rattle.std.proofs.lemmas.List.{get_or_read}
use Rattle.wave_base.specs.declared.types.RowId.{RowId}
use Rattle.row_graph.specs.Rows.{row_zero}
use Rattle.row_graph.specs.Predecessors.{before}
use Rattle.wave_levels.specs.Levels.{level_at}
use Rattle.wave_levels.specs.Chains.{at_place}
use Rattle.wave_levels.proofs.Longest.{level_below}
use Rattle.wave_levels.proofs.Backward.{chain_more}
use Rattle.wave_levels.proofs.plain.chain_back.Goals as goal
use Rattle.wave_levels.proofs.plain.chain_back.Goals.{After-index-next}

-- the row that was found last
next_is : (c : After-index-next) → c.index-next.result.now ≡ at_place c.loop-back.rows.items (c.count-count.result - 1 - c.loop-back.back + 1)
next_is c =
    let rows = c.loop-back.rows.items in
    let level = c.count-count.result - 1 - c.loop-back.back in
    let lt : level + 1 < length rows = omega (arith, c.loop-back.invariant.full, c.count-count.ensures, c.loop-back.auto.back) in
    get_or_read rows (level + 1) c.index-next.result.now lt c.index-next.ensures row_zero

pub row_before-requires-clause-next : goal.row_before-requires-clause-next
row_before-requires-clause-next c =
    let inv = c.loop-back.invariant in
    let rows = c.loop-back.rows.items in
    let level = c.count-count.result - 1 - c.loop-back.back in
    let lt : level + 1 < length rows = omega (arith, inv.full, c.count-count.ensures, c.loop-back.auto.back) in
    let within = inv.within (level + 1) lt (omega (arith, inv.full, c.count-count.ensures)) in
    let e = ap (λ (r : RowId). r.0) (next_is (goal.at.row_before-requires-clause-next c).After-index-next) in
    omega (arith, within, e)

pub row_before-requires-clause-some : goal.row_before-requires-clause-some
row_before-requires-clause-some c =
    let inv = c.loop-back.invariant in
    let rows = c.loop-back.rows.items in
    let level = c.count-count.result - 1 - c.loop-back.back in
    let lt : level + 1 < length rows = omega (arith, inv.full, c.count-count.ensures, c.loop-back.auto.back) in
    let from : length rows ≤ level + 1 + c.loop-back.back = omega (arith, inv.full, c.count-count.ensures) in
    let at = inv.level_is (level + 1) lt from in
    let within = inv.within (level + 1) lt from in
    let low : (at_place rows (level + 1)).0 < length c.args.preds.now = omega (arith, within, c.requires.levels.0) in
    let some = level_below c.args.preds.now c.args.levels.now c.requires.levels (at_place rows (level + 1)).0 level low at in
    subst (λ (r : RowId). (i : RowId) × Contains (before c.args.preds.now r.0) i × (level_at c.args.levels.now i ≡ level)) (sym (next_is (goal.at.row_before-requires-clause-some c).After-index-next)) some

pub loop-back-preserved : goal.loop-back-preserved
loop-back-preserved c =
    let inv = c.loop-back.invariant in
    let graph = c.args.preds.now in
    let levels = c.args.levels.now in
    let rows = c.loop-back.rows.items in
    let level = c.count-count.result - 1 - c.loop-back.back in
    let row = c.row_before.result in
    let found = next_is (goal.at.loop-back-preserved c).After-index-next in
    let is : level + 1 + c.loop-back.back ≡ length rows = omega (arith, inv.full, c.count-count.ensures) in
    let lt : level + 1 < length rows = omega (arith, inv.full, c.count-count.ensures, c.loop-back.auto.back) in
    let one = subst (λ (r : RowId). Contains (before graph r.0) row) found c.row_before.ensures.one in
    let within = inv.within (level + 1) lt (omega (arith, is)) in
    let next = ap (λ (r : RowId). r.0) found in
    let low : row.0 < length levels = omega (arith, next, within, c.row_before.ensures.lesser) in
    chain_more graph levels c.loop-back.back c.args.last rows inv level is (omega (arith, c.loop-back.auto.back)) row one c.row_before.ensures.level low
    (λ i m e. c.row_before.ensures.least i (subst (λ (r : RowId). Contains (before graph r.0) i) (sym found) m) e)
