-- The rows of a level, found one row at a time.
use Rattle.std.proofs.Common.{◌≡◌, ℕ, ◌+◌, ◌<◌, ◌≤◌, ◌^◌, ◌∙◌, ◌++◌, List, [], ◌∷◌, Bool, true, false, cond, eqb, length, get_or, map, arith, refl, ap, sym}
use Rattle.std.specs.List.{range_with_len, filter}
use Rattle.std.proofs.lemmas.List.{map-append, map-id}
use Rattle.std.proofs.lemmas.List.Elements.{filter-append}
use Rattle.std.proofs.lemmas.List.FromFn.{map-range_with_len_more, length-map-range_with_len, get_or-map-range_with_len}
use Rattle.wave_base.specs.declared.types.RowId.{RowId}
use Rattle.row_graph.specs.Rows.{row}
use Rattle.wave_levels.specs.Levels.{above, rows_at}
use Rattle.wave_levels.specs.Grouped.{AreGrouped}
use Rattle.wave_levels.proofs.Grouping.{above-low}

-- the rows of a level among the first rows
abbrev pub rows_so_far : List ℕ → ℕ → ℕ → List RowId
rows_so_far levels level rows = map row (filter (λ j. eqb (get_or levels j 0) level) (range_with_len 0 rows))

range_more : (n : ℕ) → range_with_len 0 (n + 1) ≡ range_with_len 0 n ++ n ∷ []
range_more n =
    sym (map-id (range_with_len 0 (n + 1))) ∙ map-range_with_len_more (λ (k : ℕ). k) 0 n n (omega arith) ∙ ap (λ (ks : List ℕ). ks ++ n ∷ []) (map-id (range_with_len 0 n))

one : (b : Bool) (k : ℕ) → map row (cond b (k ∷ []) []) ≡ cond b (row k ∷ []) []
one true k = refl
one false k = refl

pub rows_more : (levels : List ℕ) (level rows : ℕ) → rows_so_far levels level (rows + 1) ≡ rows_so_far levels level rows ++ cond (eqb (get_or levels rows 0) level) (row rows ∷ []) []
rows_more levels level rows =
    let p : ℕ → Bool = λ j. eqb (get_or levels j 0) level in
    ap (λ (ks : List ℕ). map row (filter p ks)) (range_more rows)
    ∙ ap (map row) (filter-append p (range_with_len 0 rows) (rows ∷ []))
    ∙ map-append row (filter p (range_with_len 0 rows)) (cond (p rows) (rows ∷ []) [])
    ∙ ap (λ (rs : List RowId). rows_so_far levels level rows ++ rs) (one (p rows) rows)

pub searched_are_grouped : (levels : List ℕ) → ((k : ℕ) → k < length levels → get_or levels k 0 ≤ k) → length levels < 2 ^ 32 → AreGrouped levels (map (rows_at levels) (range_with_len 0 (above levels)))
searched_are_grouped levels low small = (
  small,
  omega (arith, above-low levels low),
  length-map-range_with_len (rows_at levels) 0 (above levels),
  λ level h. get_or-map-range_with_len (rows_at levels) 0 (above levels) level level [] h (omega arith),
)
