use Rattle.std.proofs.Common.{◌≡◌, ◌+◌, ◌∙◌, ◌-◌, get_or, ap, sym, rules}
use Rattle.std.proofs.lemmas.List.Elements.{Contains-get_or}
use Rattle.row_graph.specs.Rows.{row_zero}
use Rattle.wave_levels.specs.Levels.{above}
use Rattle.wave_levels.proofs.RowsAt.{some_row, first_is_least}
use Rattle.wave_levels.proofs.chains.chain.Goals as goal

pub bounds-rows-0 : goal.bounds-rows-0
bounds-rows-0 c =
    let e : above c.args.levels.now ≡ c.count-count.result - 1 + 1 = search rules in
    some_row c.args.levels.now c.rows.result.now (c.count-count.result - 1) c.rows.ensures.members e

pub chain_to-requires-clause-row : goal.chain_to-requires-clause-row
chain_to-requires-clause-row c =
    let e : above c.args.levels.now ≡ c.count-count.result - 1 + 1 = search rules in
    let s = some_row c.args.levels.now c.rows.result.now (c.count-count.result - 1) c.rows.ensures.members e in
    ((c.rows.ensures.members (get_or c.rows.result.now 0 row_zero)).0 (Contains-get_or c.rows.result.now 0 row_zero s)).0

pub chain_to-requires-clause-greatest : goal.chain_to-requires-clause-greatest
chain_to-requires-clause-greatest c =
    let e : above c.args.levels.now ≡ c.count-count.result - 1 + 1 = search rules in
    let s = some_row c.args.levels.now c.rows.result.now (c.count-count.result - 1) c.rows.ensures.members e in
    ap (λ n. n + 1) ((c.rows.ensures.members (get_or c.rows.result.now 0 row_zero)).0 (Contains-get_or c.rows.result.now 0 row_zero s)).1 ∙ sym e

pub chain_to-requires-clause-least : goal.chain_to-requires-clause-least
chain_to-requires-clause-least c =
    λ r l e. first_is_least c.args.levels.now (c.count-count.result - 1) c.rows.result.now c.rows.ensures.members c.rows.ensures.ascending r l (search rules)
