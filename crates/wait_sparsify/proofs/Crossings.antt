-- Which pairs of tasks are made.
use Rattle.std.proofs.Common.{◌≡◌, ℕ, suc, zero, ◌+◌, ◌∙◌, inl, inr, List, [], ◌∷◌, eqb, get_or, arith, refl, ap, sym, subst}
use Rattle.std.proofs.lemmas.Bool.{eqb-false, ne_eqb}
use Rattle.wave_base.specs.declared.types.RowId.{RowId}
use Rattle.row_graph.specs.Rows.{row}
use Rattle.row_graph.specs.Predecessors.{before}
use Rattle.row_graph.proofs.Members.{In, In-append, In-append_left, In-append_right}
use Rattle.wait_sparsify.proofs.Skips.{skip, skip_first, skip_rest}
use Rattle.wait_sparsify.specs.Crossing.{crossing, crossing_rows, crossing_lists}

module _ (graph : List (List RowId)) (owners tasks : List ℕ) where
  -- the task of a row
  abbrev pub task_at : RowId → ℕ
  task_at i = get_or tasks i.0 0

  -- a row's task beside another on a different worker
  abbrev pub IsPair : ℕ → RowId → RowId × RowId → Type 0
  IsPair task i p = (p ≡ (row (task_at i), row task)) × (get_or owners (task_at i) 0 ≡ get_or owners task 0 → ⊥)

  pub In-crossing : (task : ℕ) (rows : List RowId) (p : RowId × RowId) → In p (crossing owners tasks task rows) → (i : RowId) × In i rows × IsPair task i p
  In-crossing task [] p h = absurd h
  In-crossing task (i ∷ rows) p h =
      elim (skip (eqb (get_or owners (task_at i) 0) (get_or owners task 0)) (row (task_at i), row task) (crossing owners tasks task rows) p h) as (λ _. (j : RowId) × In j (i ∷ rows) × IsPair task j p) [
        | inl w ↦ (i, inl refl, (sym w.1, eqb-false (get_or owners (task_at i) 0) (get_or owners task 0) w.0))
        | inr w ↦ let r = In-crossing task rows p w in (r.0, inr r.1, r.2)
      ]

  pub In-crossing_to : (task : ℕ) (rows : List RowId) (i : RowId) → In i rows → (get_or owners (task_at i) 0 ≡ get_or owners task 0 → ⊥) → In (row (task_at i), row task) (crossing owners tasks task rows)
  In-crossing_to task [] i h ne = absurd h
  In-crossing_to task (j ∷ rows) i (inl e) ne =
      let ne' : get_or owners (task_at j) 0 ≡ get_or owners task 0 → ⊥ = λ q. ne (ap (λ (r : RowId). get_or owners (task_at r) 0) (sym e) ∙ q) in
      let f = skip_first (eqb (get_or owners (task_at j) 0) (get_or owners task 0)) (row (task_at j), row task) (crossing owners tasks task rows) (ne_eqb (get_or owners (task_at j) 0) (get_or owners task 0) ne') in
      subst (λ (r : RowId). In (row (task_at r), row task) (crossing owners tasks task (j ∷ rows))) e f
  In-crossing_to task (j ∷ rows) i (inr h) ne =
      skip_rest (eqb (get_or owners (task_at j) 0) (get_or owners task 0)) (row (task_at j), row task) (crossing owners tasks task rows) (row (task_at i), row task) (In-crossing_to task rows i h ne)

  In-rows : (task : ℕ) (rows : List RowId) (p : RowId × RowId) → In p (crossing_rows graph owners tasks task rows) → (j : RowId) × (i : RowId) × In j rows × In i (before graph j.0) × IsPair task i p
  In-rows task [] p h = absurd h
  In-rows task (j ∷ rows) p h =
      elim (In-append (crossing owners tasks task (before graph j.0)) (crossing_rows graph owners tasks task rows) p h) as (λ _. (k : RowId) × (i : RowId) × In k (j ∷ rows) × In i (before graph k.0) × IsPair task i p) [
        | inl a ↦ let r = In-crossing task (before graph j.0) p a in (j, r.0, inl refl, r.1, r.2)
        | inr b ↦ let r = In-rows task rows p b in (r.0, r.1, inr r.2, r.3, r.4)
      ]

  In-rows_to : (task : ℕ) (rows : List RowId) (j i : RowId) → In j rows → In i (before graph j.0) → (get_or owners (task_at i) 0 ≡ get_or owners task 0 → ⊥) → In (row (task_at i), row task) (crossing_rows graph owners tasks task rows)
  In-rows_to task [] j i h m ne = absurd h
  In-rows_to task (k ∷ rows) j i (inl e) m ne =
      let m' = subst (λ (r : RowId). In i (before graph r.0)) (sym e) m in
      In-append_left (crossing owners tasks task (before graph k.0)) (crossing_rows graph owners tasks task rows) (row (task_at i), row task) (In-crossing_to task (before graph k.0) i m' ne)
  In-rows_to task (k ∷ rows) j i (inr h) m ne =
      In-append_right (crossing owners tasks task (before graph k.0)) (crossing_rows graph owners tasks task rows) (row (task_at i), row task) (In-rows_to task rows j i h m ne)

  -- where a pair comes from
  pub record Comes (first : ℕ) (lists : List (List RowId)) (p : RowId × RowId) : Type 0 where
    pub list : ℕ
    pub j : RowId
    pub i : RowId
    pub j_in : In j (get_or lists list [])
    pub i_in : In i (before graph j.0)
    pub pair : IsPair (first + list) i p

  pub In-lists : (first : ℕ) (lists : List (List RowId)) (p : RowId × RowId) → In p (crossing_lists graph owners tasks first lists) → Comes first lists p
  In-lists first [] p h = absurd h
  In-lists first (rows ∷ lists) p h =
      elim (In-append (crossing_rows graph owners tasks first rows) (crossing_lists graph owners tasks (first + 1) lists) p h) as (λ _. Comes first (rows ∷ lists) p) [
        | inl a ↦
            let r = In-rows first rows p a in
            let e : first ≡ first + zero = omega arith in
            record { list = zero; j = r.0; i = r.1; j_in = r.2; i_in = r.3; pair = subst (λ (t : ℕ). IsPair t r.1 p) e r.4 }
        | inr b ↦
            let r = In-lists (first + 1) lists p b in
            let e : first + 1 + r.list ≡ first + suc r.list = omega arith in
            record { list = suc r.list; j = r.j; i = r.i; j_in = r.j_in; i_in = r.i_in; pair = subst (λ (t : ℕ). IsPair t r.i p) e r.pair }
      ]

  pub In-lists_to : (first : ℕ) (lists : List (List RowId)) (list : ℕ) (j i : RowId) → In j (get_or lists list []) → In i (before graph j.0) → (get_or owners (task_at i) 0 ≡ get_or owners (first + list) 0 → ⊥) → In (row (task_at i), row (first + list)) (crossing_lists graph owners tasks first lists)
  In-lists_to first [] list j i h m ne = absurd h
  In-lists_to first (rows ∷ lists) zero j i h m ne =
      let e : first + zero ≡ first = omega arith in
      let ne' = subst (λ (t : ℕ). get_or owners (task_at i) 0 ≡ get_or owners t 0 → ⊥) e ne in
      let g = In-append_left (crossing_rows graph owners tasks first rows) (crossing_lists graph owners tasks (first + 1) lists) (row (task_at i), row first) (In-rows_to first rows j i h m ne') in
      subst (λ (t : ℕ). In (row (task_at i), row t) (crossing_lists graph owners tasks first (rows ∷ lists))) (sym e) g
  In-lists_to first (rows ∷ lists) (suc list) j i h m ne =
      let e : first + suc list ≡ first + 1 + list = omega arith in
      let ne' = subst (λ (t : ℕ). get_or owners (task_at i) 0 ≡ get_or owners t 0 → ⊥) e ne in
      let g = In-append_right (crossing_rows graph owners tasks first rows) (crossing_lists graph owners tasks (first + 1) lists) (row (task_at i), row (first + 1 + list)) (In-lists_to (first + 1) lists list j i h m ne') in
      subst (λ (t : ℕ). In (row (task_at i), row t) (crossing_lists graph owners tasks first (rows ∷ lists))) (sym e) g
