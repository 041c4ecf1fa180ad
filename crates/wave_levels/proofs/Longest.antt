-- Each level is the number of edges of a longest chain.
use Rattle.std.proofs.Common.{◌≡◌, ℕ, suc, zero, add-one, ◌+◌, ◌-◌, ◌<◌, ◌≤◌, ◌∙◌, ◌++◌, inl, inr, List, [], ◌∷◌, Contains, length, get_or, map, arith, refl, ap, sym, subst}
use Rattle.std.proofs.lemmas.Bool.{cases_lt}
use Rattle.std.proofs.lemmas.List.{get_or_append_left, get_or_push, length_push, length-map, get_or-map, get_or_past}
use Rattle.std.proofs.lemmas.List.Elements.{Contains-get_or, All-contains}
use Rattle.wave_base.specs.declared.types.RowId.{RowId}
use Rattle.row_graph.specs.Rows.{row_zero}
use Rattle.row_graph.specs.Predecessors.{before, IsGraph}
use Rattle.wave_levels.specs.Levels.{level_at, AreLevels}
use Rattle.wave_levels.specs.Chains.{at_place, IsChain, EndsAt, IsLongest}
use Rattle.wave_levels.proofs.Above.{above-at, above-attained}

module _ (graph : List (List RowId)) (levels : List ℕ) (are : AreLevels graph levels) where
  -- a row with predecessors is one of the rows
  pub row_of : (j : ℕ) (i : RowId) → Contains (before graph j) i → j < length graph
  row_of j i (k, h, e) = elim (cases_lt j (length graph)) [
    | inl l ↦ l
    | inr g ↦
        let n = ap (λ (rows : List RowId). length rows) (get_or_past graph j [] g) in
        absurd (omega (arith, n, h))
  ]

  -- a row's level is above those of its predecessors
  pub level_above : (j : ℕ) (i : RowId) → Contains (before graph j) i → level_at levels i < get_or levels j 0
  level_above j i (k, h, e) =
      let l = row_of j i (k, h, e) in
      let m = get_or-map (level_at levels) (before graph j) k i 0 h in
      let a = above-at (map (level_at levels) (before graph j)) k 0 (omega (arith, length-map (before graph j) (level_at levels), h)) in
      let q : level_at levels (get_or (before graph j) k i) ≡ level_at levels i = ap (level_at levels) e in
      omega (arith, are.1 j l, m, a, q)

  -- some predecessor is one level lower
  pub level_below : (j : ℕ) (m : ℕ) → j < length graph → get_or levels j 0 ≡ m + 1 → (i : RowId) × Contains (before graph j) i × (level_at levels i ≡ m)
  level_below j m l e =
      let a = above-attained (map (level_at levels) (before graph j)) m (sym (are.1 j l) ∙ e) in
      let h : a.0 < length (before graph j) = omega (arith, a.1, length-map (before graph j) (level_at levels)) in
      let g = get_or-map (level_at levels) (before graph j) a.0 row_zero 0 h in
      (get_or (before graph j) a.0 row_zero, Contains-get_or (before graph j) a.0 row_zero h, sym g ∙ a.2)

  -- along a chain the level is at least the place
  places : (rows : List RowId) → IsChain graph rows → (k : ℕ) → k < length rows → k ≤ level_at levels (at_place rows k)
  places rows c zero h = omega arith
  places rows c (suc k) h =
      let r = places rows c k (omega arith) in
      let s = simp add-one at (level_above (at_place rows (k + 1)).0 (at_place rows k) (c k (omega arith))) in
      omega (arith, r, s)

  push_chain : (rows : List RowId) (i j : RowId) → IsChain graph rows → EndsAt rows i → Contains (before graph j.0) i → IsChain graph (rows ++ j ∷ [])
  push_chain rows i j c e h k l =
      let n = length_push rows j in
      elim (cases_lt (k + 1) (length rows)) [
        | inl lt ↦
            let a : at_place (rows ++ j ∷ []) k ≡ at_place rows k = get_or_append_left rows (j ∷ []) row_zero k (omega arith) in
            let b : at_place (rows ++ j ∷ []) (k + 1) ≡ at_place rows (k + 1) = get_or_append_left rows (j ∷ []) row_zero (k + 1) lt in
            subst (λ (r : RowId). Contains (before graph r.0) (at_place (rows ++ j ∷ []) k)) (sym b) (subst (λ (r : RowId). Contains (before graph (at_place rows (k + 1)).0) r) (sym a) (c k lt))
        | inr ge ↦
            let last : k ≡ length rows - 1 = omega arith in
            let a : at_place (rows ++ j ∷ []) k ≡ i = get_or_append_left rows (j ∷ []) row_zero k (omega (arith, e.0)) ∙ ap (at_place rows) last ∙ e.1 in
            let b : at_place (rows ++ j ∷ []) (k + 1) ≡ j = get_or_push rows j row_zero (k + 1) (omega (arith, e.0)) in
            subst (λ (r : RowId). Contains (before graph r.0) (at_place (rows ++ j ∷ []) k)) (sym b) (subst (λ (r : RowId). Contains (before graph j.0) r) (sym a) h)
      ]

module _ (graph : List (List RowId)) (levels : List ℕ) (are : AreLevels graph levels) (graph_is : IsGraph graph) where
  attained : (edges : ℕ) (j : RowId) → j.0 < length graph → level_at levels j ≡ edges → (rows : List RowId) × IsChain graph rows × EndsAt rows j × (length rows ≡ edges + 1)
  attained zero j l e = (j ∷ [], (λ k h. absurd (omega (arith, h))), (omega arith, refl), refl)
  attained (suc edges) j l e =
      let b = level_below graph levels are j.0 edges l (e ∙ omega arith) in
      let low : b.0.0 < length graph = omega (arith, l, All-contains (λ (r : RowId). r.0 < j.0) (before graph j.0) b.0 (graph_is.1 j.0) b.1) in
      let r = attained edges b.0 low b.2 in
      let n = length_push r.0 j in
      let last : length (r.0 ++ j ∷ []) - 1 ≡ length r.0 = omega (arith, n) in
      (r.0 ++ j ∷ [], push_chain graph levels are r.0 b.0 j r.1 r.2 b.1, (omega (arith, n), ap (at_place (r.0 ++ j ∷ [])) last ∙ get_or_push r.0 j row_zero (length r.0) refl), n ∙ omega (arith, r.3))

  pub is_longest : (j : RowId) → j.0 < length graph → IsLongest graph j (level_at levels j)
  is_longest j l = record {
    attained = attained (level_at levels j) j l refl;
    not_passed = λ rows c e.
        let p = places graph levels are rows c (length rows - 1) (omega (arith, e.0)) in
        let q : level_at levels (at_place rows (length rows - 1)) ≡ level_at levels j = ap (level_at levels) e.1 in
        omega (arith, p, q, e.0);
  }
