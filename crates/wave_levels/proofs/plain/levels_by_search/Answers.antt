use Rattle.std.proofs.Common.{◌≡◌, ◌++◌, ◌∷◌, ◌∙◌, ℕ, List, [], map, ap, sym, subst, arith, rules}
use Rattle.std.specs.List.{range_with_len}
use Rattle.std.proofs.lemmas.List.FromFn.{map-range_with_len_more}
use Rattle.wave_base.specs.declared.types.RowId.{RowId}
use Rattle.wave_levels.specs.Levels.{above, rows_at}
use Rattle.wave_levels.specs.Grouped.{AreGrouped}
use Rattle.wave_levels.proofs.Grouping.{above-low}
use Rattle.wave_levels.proofs.Longest.{is_longest}
use Rattle.wave_levels.proofs.Searching.{searched_are_grouped}
use Rattle.wave_levels.proofs.plain.levels_by_search.Goals as goal

pub loop-level-preserved : goal.loop-level-preserved
loop-level-preserved c =
    let levels = c.in_ok-levels.levels.items in
    let level = c.loop-level.level in
    let more = map-range_with_len_more (rows_at levels) 0 level level (omega arith) in
    let rows : c.as_slice-in-loop-level-2.result.now ≡ rows_at levels level = c.as_slice-in-loop-level-2.ensures.value ∙ c.in_ok-rows_of.ensures ∙ ap (λ (ls : List ℕ). rows_at ls level) c.as_slice-in-loop-level.ensures.value in
    c.in_ok-rows-2.ensures ∙ ap (λ (rs : List RowId). c.loop-level.rows ++ rs ∷ []) rows ∙ ap (λ (ls : List (List RowId)). ls ++ (rows_at levels level) ∷ []) c.loop-level.invariant ∙ sym more

pub first_above-level-end-requires : goal.first_above-level-end-requires
first_above-level-end-requires c =
    let low = above-low c.in_ok-levels.levels.items (search rules) in
    omega (arith, low, ap above c.as_slice.ensures.value, c.in_ok-levels.ensures.levels.0, c.rows.ensures.rows)

pub invariant_of-result : goal.invariant_of-result
invariant_of-result c =
    let levels = c.in_ok-levels.levels.items in
    let count : c.loop-level.level ≡ above levels = search rules in
    let rows = c.loop-level.invariant ∙ ap (λ n. map (rows_at levels) (range_with_len 0 n)) count in
    subst (AreGrouped levels) (sym rows) (searched_are_grouped levels (search rules) (search rules))

pub returns-clause-longest : goal.returns-clause-longest
returns-clause-longest c = is_longest c.args.preds.now c.in_ok-levels.levels.items c.in_ok-levels.ensures.levels c.in_ok-levels.ensures.graph
