-- The chain while its rows are found from the last one backward.
use Rattle.std.proofs.Common.{◌≡◌, ℕ, ◌+◌, ◌-◌, ◌<◌, ◌≤◌, ◌∙◌, inl, inr, List, Contains, length, set, arith, ap, sym, subst}
use Rattle.std.proofs.lemmas.Bool.{cases_lt}
use Rattle.std.proofs.lemmas.List.{length-set, get_or-set_same, get_or-set_other}
use Rattle.wave_base.specs.declared.types.RowId.{RowId}
use Rattle.row_graph.specs.Rows.{row_zero}
use Rattle.row_graph.specs.Predecessors.{before}
use Rattle.wave_levels.specs.Levels.{above, level_at}
use Rattle.wave_levels.specs.Chains.{at_place, IsLeastChain}

-- the last `found` rows stand at their places
pub record ChainFrom (graph : List (List RowId)) (levels : List ℕ) (found : ℕ) (last : RowId) (rows : List RowId) : Type 0 where
  pub full : length rows ≡ above levels
  pub last_is : at_place rows (length rows - 1) ≡ last
  pub level_is : (k : ℕ) → k < length rows → length rows ≤ k + found → level_at levels (at_place rows k) ≡ k
  pub within : (k : ℕ) → k < length rows → length rows ≤ k + found → (at_place rows k).0 < length levels
  pub linked : (k : ℕ) → k + 1 < length rows → length rows ≤ k + found → Contains (before graph (at_place rows (k + 1)).0) (at_place rows k)
  pub least : (k : ℕ) (i : RowId) → k + 1 < length rows → length rows ≤ k + found → Contains (before graph (at_place rows (k + 1)).0) i → level_at levels i ≡ k → (at_place rows k).0 ≤ i.0

-- one row more
module _ (graph : List (List RowId)) (levels : List ℕ) (found : ℕ) (last : RowId) (rows : List RowId) (c : ChainFrom graph levels found last rows) (level : ℕ) (is : level + 1 + found ≡ length rows) (some : 0 < found) (row : RowId) (one : Contains (before graph (at_place rows (level + 1)).0) row) (at_level : level_at levels row ≡ level) (low : row.0 < length levels) (first : (i : RowId) → Contains (before graph (at_place rows (level + 1)).0) i → level_at levels i ≡ level → row.0 ≤ i.0) where
  here : at_place (set rows level row) level ≡ row
  here = get_or-set_same rows level row row_zero (omega arith)

  there : (k : ℕ) → level < k → at_place (set rows level row) k ≡ at_place rows k
  there k h = get_or-set_other rows level k row row_zero (λ e. omega arith)

  same : length (set rows level row) ≡ length rows
  same = length-set rows level row

  pub chain_more : ChainFrom graph levels (found + 1) last (set rows level row)
  chain_more = record {
    full = same ∙ c.full;
    last_is = ap (λ n. at_place (set rows level row) (n - 1)) same ∙ there (length rows - 1) (omega arith) ∙ c.last_is;
    level_is = λ k h g. elim (cases_lt level k) as (λ _. level_at levels (at_place (set rows level row) k) ≡ k) [
      | inl l ↦ ap (level_at levels) (there k l) ∙ c.level_is k (omega (arith, same)) (omega (arith, same))
      | inr q ↦
          let e : level ≡ k = omega (arith, same) in
          subst (λ (k : ℕ). level_at levels (at_place (set rows level row) k) ≡ k) e (ap (level_at levels) here ∙ at_level)
    ];
    within = λ k h g. elim (cases_lt level k) as (λ _. (at_place (set rows level row) k).0 < length levels) [
      | inl l ↦ subst (λ (r : RowId). r.0 < length levels) (sym (there k l)) (c.within k (omega (arith, same)) (omega (arith, same)))
      | inr q ↦
          let e : level ≡ k = omega (arith, same) in
          subst (λ (k : ℕ). (at_place (set rows level row) k).0 < length levels) e (subst (λ (r : RowId). r.0 < length levels) (sym here) low)
    ];
    linked = λ k h g. elim (cases_lt level k) as (λ _. Contains (before graph (at_place (set rows level row) (k + 1)).0) (at_place (set rows level row) k)) [
      | inl l ↦
          subst (λ (r : RowId). Contains (before graph r.0) (at_place (set rows level row) k)) (sym (there (k + 1) (omega arith))) (subst (λ (r : RowId). Contains (before graph (at_place rows (k + 1)).0) r) (sym (there k l)) (c.linked k (omega (arith, same)) (omega (arith, same))))
      | inr q ↦
          let e : level ≡ k = omega (arith, same) in
          let at : Contains (before graph (at_place (set rows level row) (level + 1)).0) (at_place (set rows level row) level) =
          subst (λ (r : RowId). Contains (before graph r.0) (at_place (set rows level row) level)) (sym (there (level + 1) (omega arith))) (subst (λ (r : RowId). Contains (before graph (at_place rows (level + 1)).0) r) (sym here) one) in
          subst (λ (k : ℕ). Contains (before graph (at_place (set rows level row) (k + 1)).0) (at_place (set rows level row) k)) e at
    ];
    least = λ k i h g m lv. elim (cases_lt level k) as (λ _. (at_place (set rows level row) k).0 ≤ i.0) [
      | inl l ↦
          let m' = subst (λ (r : RowId). Contains (before graph r.0) i) (there (k + 1) (omega arith)) m in
          subst (λ (r : RowId). r.0 ≤ i.0) (sym (there k l)) (c.least k i (omega (arith, same)) (omega (arith, same)) m' lv)
      | inr q ↦
          let e : k ≡ level = omega (arith, same) in
          let m' = subst (λ (k : ℕ). Contains (before graph (at_place (set rows level row) (k + 1)).0) i) e m in
          let m'' = subst (λ (r : RowId). Contains (before graph r.0) i) (there (level + 1) (omega arith)) m' in
          subst (λ (k : ℕ). (at_place (set rows level row) k).0 ≤ i.0) (sym e) (subst (λ (r : RowId). r.0 ≤ i.0) (sym here) (first i m'' (lv ∙ e)))
    ];
  }

-- at the end all rows stand
pub chain_end : (graph : List (List RowId)) (levels : List ℕ) (found : ℕ) (last : RowId) (rows : List RowId) → ChainFrom graph levels found last rows → length rows ≤ found → last.0 < length levels → level_at levels last + 1 ≡ above levels → ((r : RowId) → r.0 < length levels → level_at levels r + 1 ≡ above levels → last.0 ≤ r.0) → IsLeastChain graph levels rows
chain_end graph levels found last rows c all low top first = record {
  full = c.full;
  last_row = λ _. subst (λ (r : RowId). r.0 < length levels) (sym c.last_is) low;
  last_level = λ _. subst (λ (r : RowId). level_at levels r + 1 ≡ above levels) (sym c.last_is) top;
  last_least = λ r h e. subst (λ (q : RowId). q.0 ≤ r.0) (sym c.last_is) (first r h e);
  linked = λ k h. c.linked k h (omega arith);
  lower = λ k h.
      let a = c.level_is k (omega arith) (omega arith) in
      let b = c.level_is (k + 1) h (omega arith) in
      omega (arith, a, b);
  least = λ k i h m e.
      let b = c.level_is (k + 1) h (omega arith) in
      c.least k i h (omega arith) m (omega (arith, b, e));
}
