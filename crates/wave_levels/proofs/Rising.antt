-- The levels while rows are taken in order.
use Rattle.std.proofs.Common.{◌≡◌, ℕ, ◌+◌, ◌<◌, ◌≤◌, ◌∙◌, ◌++◌, inl, inr, List, [], ◌∷◌, All, length, get_or, map, arith, refl, ap, sym, subst}
use Rattle.std.proofs.lemmas.Bool.{cases_lt}
use Rattle.std.proofs.lemmas.List.{get_or_append_left, get_or_push, length_push, length-map, get_or-map}
use Rattle.std.proofs.lemmas.List.Elements.{All-head, All-tail}
use Rattle.wave_base.specs.declared.types.RowId.{RowId}
use Rattle.row_graph.specs.Rows.{row_zero}
use Rattle.row_graph.specs.Predecessors.{before, IsGraph}
use Rattle.wave_levels.specs.Levels.{above, level_at}
use Rattle.wave_levels.proofs.Above.{above-le}

-- the first rows have their levels, none of which is above its row
pub record LevelsSoFar (graph : List (List RowId)) (rows : ℕ) (levels : List ℕ) : Type 0 where
  pub graph_is : IsGraph graph
  pub many : length levels ≡ rows
  pub level_is : (k : ℕ) → k < rows → get_or levels k 0 ≡ above (map (level_at levels) (before graph k))
  pub low : (k : ℕ) → k < rows → get_or levels k 0 ≤ k

-- the next row's number is above the levels of all rows before it
pub row_above : (graph : List (List RowId)) (rows : ℕ) (levels : List ℕ) → LevelsSoFar graph rows levels → above (map (level_at levels) (before graph rows)) ≤ rows
row_above graph rows levels s =
    let ps : List RowId = before graph rows in
    above-le (map (level_at levels) ps) rows (λ k l.
    let n : k < length ps = omega (arith, length-map ps (level_at levels), l) in
    let e = get_or-map (level_at levels) ps k row_zero 0 n in
    let x : (get_or ps k row_zero).0 < rows = s.graph_is.1 rows k row_zero n in
    let low = s.low (get_or ps k row_zero).0 x in
    omega (arith, e, x, low))

-- one more level changes none of the rows before
map-same : (levels : List ℕ) (level : ℕ) (rows : List RowId) → All (λ (r : RowId). r.0 < length levels) rows → map (level_at (levels ++ level ∷ [])) rows ≡ map (level_at levels) rows
map-same levels level [] h = refl
map-same levels level (r ∷ rows) h =
    let a = get_or_append_left levels (level ∷ []) 0 r.0 (All-head (λ (r : RowId). r.0 < length levels) r rows h) in
    let b = map-same levels level rows (All-tail (λ (r : RowId). r.0 < length levels) r rows h) in
    ap (λ n. n ∷ map (level_at (levels ++ level ∷ [])) rows) a ∙ ap (λ ns. get_or levels r.0 0 ∷ ns) b

pub levels_more : (graph : List (List RowId)) (rows : ℕ) (levels : List ℕ) (level : ℕ) → LevelsSoFar graph rows levels → level ≡ above (map (level_at levels) (before graph rows)) → level ≤ rows → LevelsSoFar graph (rows + 1) (levels ++ level ∷ [])
levels_more graph rows levels level s is small = record {
  graph_is = s.graph_is;
  many = length_push levels level ∙ omega (arith, s.many);
  level_is = λ k h. elim (cases_lt k rows) as (λ _. get_or (levels ++ level ∷ []) k 0 ≡ above (map (level_at (levels ++ level ∷ [])) (before graph k))) [
    | inl l ↦
        let a = get_or_append_left levels (level ∷ []) 0 k (omega (arith, s.many)) in
        let below : All (λ (r : RowId). r.0 < length levels) (before graph k) = λ q d m. (let x = s.graph_is.1 k q d m in omega (arith, x, s.many)) in
        a ∙ s.level_is k l ∙ ap above (sym (map-same levels level (before graph k) below))
    | inr g ↦
        let e : rows ≡ k = omega arith in
        let a = get_or_push levels level 0 rows s.many in
        let below : All (λ (r : RowId). r.0 < length levels) (before graph rows) = λ q d m. (let x = s.graph_is.1 rows q d m in omega (arith, x, s.many)) in
        let here : get_or (levels ++ level ∷ []) rows 0 ≡ above (map (level_at (levels ++ level ∷ [])) (before graph rows)) = a ∙ is ∙ ap above (sym (map-same levels level (before graph rows) below)) in
        subst (λ (k : ℕ). get_or (levels ++ level ∷ []) k 0 ≡ above (map (level_at (levels ++ level ∷ [])) (before graph k))) e here
  ];
  low = λ k h. elim (cases_lt k rows) [
    | inl l ↦
        let a = get_or_append_left levels (level ∷ []) 0 k (omega (arith, s.many)) in
        omega (arith, a, s.low k l)
    | inr g ↦
        let a = get_or_push levels level 0 k (omega (arith, s.many)) in
        omega (arith, a)
  ];
}
