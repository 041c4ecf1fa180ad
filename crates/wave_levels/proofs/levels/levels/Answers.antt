use Rattle.std.proofs.Common.{◌≡◌, ◌<◌, ℕ, List, length, sym, subst}
use Rattle.std.proofs.lemmas.Result.{IfOk-weaker}
use Rattle.wave_base.specs.declared.types.RowId.{RowId}
use Rattle.wave_levels.specs.Chains.{IsLongest}
use Rattle.wave_levels.specs.Levels.{level_at}
use Rattle.wave_levels.proofs.Longest.{is_longest}
use Rattle.wave_levels.proofs.levels.levels.Goals as goal

pub returns-clause-longest : goal.returns-clause-longest
returns-clause-longest c =
    let graph = c.args.preds.now in
    let items = c.in_ok-levels.levels.items in
    IfOk-weaker c.grouped.result (λ levels. levels ≡ items) (λ levels. (j : RowId) → j.0 < length graph → IsLongest graph j (level_at levels j))
    (λ levels e. subst (λ (levels : List ℕ). (j : RowId) → j.0 < length graph → IsLongest graph j (level_at levels j)) (sym e) (is_longest graph items c.in_ok-levels.ensures.levels c.in_ok-levels.ensures.graph))
    c.grouped.ensures
