use Rattle.std.proofs.Common.{◌<◌, ◌∙◌, ℕ, All, List, ap, sym, subst, rules}
use Rattle.wave_base.specs.declared.types.RowId.{RowId}
use Rattle.row_graph.specs.Buckets.{buckets}
use Rattle.wave_levels.specs.Levels.{above, levelled}
use Rattle.wave_levels.specs.Grouped.{AreGrouped}
use Rattle.wave_levels.proofs.Grouping.{levelled_below, are_grouped}
use Rattle.wave_levels.proofs.grouped.grouped.Goals as goal

pub by_key-requires : goal.by_key-requires
by_key-requires c =
    let levels = c.args.levels.items in
    let entries = c.as_slice-3.ensures.value ∙ c.in_ok-entries.ensures ∙ ap levelled c.as_slice.ensures.value in
    let count = c.count_of.ensures ∙ ap above c.as_slice-2.ensures.value in
    subst (λ (n : ℕ). All (λ (e : ℕ × RowId). e.0 < n) c.as_slice-3.result.now) (sym count) (subst (λ (es : List (ℕ × RowId)). All (λ (e : ℕ × RowId). e.0 < above levels) es) (sym entries) (levelled_below levels))

pub invariant_of-result : goal.invariant_of-result
invariant_of-result c =
    let levels = c.args.levels.items in
    let entries = c.as_slice-3.ensures.value ∙ c.in_ok-entries.ensures ∙ ap levelled c.as_slice.ensures.value in
    let count = c.count_of.ensures ∙ ap above c.as_slice-2.ensures.value in
    let rows = c.in_ok-rows.ensures ∙ ap (buckets c.count_of.result) entries ∙ ap (λ n. buckets n (levelled levels)) count in
    subst (AreGrouped levels) (sym rows) (are_grouped levels c.requires.low (search rules))
