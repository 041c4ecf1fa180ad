-- Rows in buckets by their level.
use Rattle.std.proofs.Common.{◌≡◌, ℕ, ◌<◌, ◌≤◌, ◌^◌, ◌∙◌, List, [], ◌∷◌, Bool, true, false, cond, eqb, All, length, get_or, map, arith, refl, ap, sym, subst}
use Rattle.std.specs.List.{range_with_len, filter}
use Rattle.std.proofs.lemmas.List.FromFn.{length-map-range_with_len, get_or-map-range_with_len}
use Rattle.std.proofs.lemmas.List.Elements.{All-from_get_or}
use Rattle.wave_base.specs.declared.types.RowId.{RowId}
use Rattle.row_graph.specs.Rows.{row, row_zero}
use Rattle.row_graph.specs.Buckets.{rows_with, buckets}
use Rattle.row_graph.proofs.Members.{rows_with-cons}
use Rattle.wave_levels.specs.Levels.{above, beside, levelled}
use Rattle.wave_levels.specs.Grouped.{AreGrouped}
use Rattle.wave_levels.proofs.Above.{above-at, above-le}

map-cond : (b : Bool) (k : ℕ) (kept : List ℕ) → map row (cond b (k ∷ kept) kept) ≡ cond b (row k ∷ map row kept) (map row kept)
map-cond true k kept = refl
map-cond false k kept = refl

-- of rows beside their levels those with a level are those that a test keeps
rows_with-levels : (levels : List ℕ) (level : ℕ) (ks : List ℕ) → rows_with level (map (beside levels) ks) ≡ map row (filter (λ j. eqb (get_or levels j 0) level) ks)
rows_with-levels levels level [] = refl
rows_with-levels levels level (k ∷ ks) =
    let g : List (ℕ × RowId) = map (beside levels) ks in
    let a = rows_with-cons level (get_or levels k 0, row k) g in
    let r = rows_with-levels levels level ks in
    let b = map-cond (eqb (get_or levels k 0) level) k (filter (λ j. eqb (get_or levels j 0) level) ks) in
    a ∙ ap (λ rows. cond (eqb (get_or levels k 0) level) (row k ∷ rows) rows) r ∙ sym b

pub levelled_below : (levels : List ℕ) → All (λ (e : ℕ × RowId). e.0 < above levels) (levelled levels)
levelled_below levels =
    All-from_get_or (λ (e : ℕ × RowId). e.0 < above levels) (levelled levels) (0, row_zero) (λ i h.
    let l : i < length levels = omega (arith, length-map-range_with_len (beside levels) 0 (length levels)) in
    let e = get_or-map-range_with_len (beside levels) 0 (length levels) i i (0, row_zero) l (omega arith) in
    subst (λ (e : ℕ × RowId). e.0 < above levels) (sym e) (above-at levels i 0 l))

pub above-low : (levels : List ℕ) → ((k : ℕ) → k < length levels → get_or levels k 0 ≤ k) → above levels ≤ length levels
above-low levels low = above-le levels (length levels) (λ k h. omega (arith, low k h))

pub are_grouped : (levels : List ℕ) → ((k : ℕ) → k < length levels → get_or levels k 0 ≤ k) → length levels < 2 ^ 32 → AreGrouped levels (buckets (above levels) (levelled levels))
are_grouped levels low small = (
  small,
  omega (arith, above-low levels low),
  length-map-range_with_len (λ key. rows_with key (levelled levels)) 0 (above levels),
  λ level h. get_or-map-range_with_len (λ key. rows_with key (levelled levels)) 0 (above levels) level level [] h (omega arith) ∙ rows_with-levels levels level (range_with_len 0 (length levels)),
)
