-- Whether some task stands between two.
use Rattle.std.proofs.Common.{◌≡◌, ℕ, suc, zero, ◌<◌, ◌∙◌, ◌⊎◌, inl, inr, List, [], ◌∷◌, None, length, get_or, arith, refl, sym, subst}
use Rattle.std.specs.List.{slice_get}
use Rattle.std.proofs.lemmas.Bool.{cases_eq, cases_lt}
use Rattle.std.proofs.lemmas.Option.{slice_get_cases, same_Some, none-some}
use Rattle.wave_base.specs.declared.types.RowId.{RowId}
use Rattle.row_graph.specs.Predecessors.{before}
use Rattle.row_graph.proofs.Members.{In, In-from, In-to}
use Rattle.sched_types.specs.declared.sched.RowTask.{RowTask}
use Rattle.sched_types.specs.Order.{Spot, IsAt, tasks_of}
use Rattle.sched_types.specs.Kept.{IsCross, IsEarlier, Plus}
use Rattle.wait_sparsify.specs.Depends.{Depends}
use Rattle.wait_sparsify.proofs.Stamping.{In-cases}
use Rattle.wait_sparsify.proofs.Places.{place, has-from}

-- it holds, or it doesn't
abbrev pub Decided : Type 0 → Type 0
Decided P = P ⊎ (P → ⊥)

below : (n : ℕ) (P : ℕ → Type 0) → ((k : ℕ) → Decided (P k)) → ((k : ℕ) × (k < n) × P k) ⊎ ((k : ℕ) → k < n → P k → ⊥)
below zero P d = inr (λ k h _. absurd (omega (arith, h)))
below (suc n) P d =
    elim (d n) as (λ _. ((k : ℕ) × (k < suc n) × P k) ⊎ ((k : ℕ) → k < suc n → P k → ⊥)) [
      | inl p ↦ inl (n, omega arith, p)
      | inr np ↦ elim (below n P d) as (λ _. ((k : ℕ) × (k < suc n) × P k) ⊎ ((k : ℕ) → k < suc n → P k → ⊥)) [
        | inl w ↦ inl (w.0, omega (arith, w.1), w.2)
        | inr nw ↦ inr (λ k h p. elim (cases_eq k n) as (λ _. ⊥) [ inl e ↦ np (subst P e p) | inr ne ↦ nw k (omega (arith, h, ne)) p ])
      ]
    ]

any : (P : RowId → Type 0) → ((r : RowId) → Decided (P r)) → (rows : List RowId) → ((r : RowId) × In r rows × P r) ⊎ ((r : RowId) → In r rows → P r → ⊥)
any P d [] = inr (λ r i _. i)
any P d (x ∷ rows) =
    elim (d x) as (λ _. ((r : RowId) × In r (x ∷ rows) × P r) ⊎ ((r : RowId) → In r (x ∷ rows) → P r → ⊥)) [
      | inl p ↦ inl (x, inl refl, p)
      | inr np ↦ elim (any P d rows) as (λ _. ((r : RowId) × In r (x ∷ rows) × P r) ⊎ ((r : RowId) → In r (x ∷ rows) → P r → ⊥)) [
        | inl w ↦ inl (w.0, inr w.1, w.2)
        | inr nw ↦ inr (λ r i p. elim i as (λ _. ⊥) [ inl e ↦ np (subst P (sym e) p) | inr j ↦ nw r j p ])
      ]
    ]

-- the task of a place, or none
find : (lists : List (List RowTask)) (p : Spot) → ((t : RowTask) × IsAt lists p t) ⊎ (slice_get (get_or lists p.worker []) p.at ≡ None)
find lists p =
    elim (slice_get_cases (get_or lists p.worker []) p.at).1 as (λ _. ((t : RowTask) × IsAt lists p t) ⊎ (slice_get (get_or lists p.worker []) p.at ≡ None)) [
      | inl w ↦ inl (w.0, w.2)
      | inr w ↦ inr w.1
    ]

pub same_task : {X : Type 0} (lists : List (List X)) (p : Spot) (a b : X) → IsAt lists p a → IsAt lists p b → a ≡ b
same_task lists p a b h i = same_Some a b (sym h ∙ i)

module _ (graph : List (List RowId)) (lists : List (List RowTask)) where
  -- a row of the one and a row of the other
  Joined : RowTask → RowTask → Type 0
  Joined u t = (j : RowId) × In j t.rows × (i : RowId) × In i u.rows × In i (before graph j.0)

  joined : (u t : RowTask) → ((j : RowId) × In j t.rows × ((i : RowId) × In i u.rows × In i (before graph j.0))) ⊎ ((j : RowId) → In j t.rows → ((i : RowId) × In i u.rows × In i (before graph j.0)) → ⊥)
  joined u t = any (λ (j : RowId). (i : RowId) × In i u.rows × In i (before graph j.0)) (λ j.
      elim (any (λ (i : RowId). In i (before graph j.0)) (λ i. In-cases i.0 (before graph j.0)) u.rows) as (λ _. Decided ((i : RowId) × In i u.rows × In i (before graph j.0))) [
        | inl w ↦ inl w
        | inr nw ↦ inr (λ w. nw w.0 w.1 w.2)
      ]) t.rows

  absent : (p : Spot) (t : RowTask) → slice_get (get_or lists p.worker []) p.at ≡ None → IsAt lists p t → ⊥
  absent p t e h = none-some t (sym e ∙ h)

  cross_tasks : (p q : Spot) (u t : RowTask) → (p.worker ≡ q.worker → ⊥) → IsAt lists p u → IsAt lists q t → Decided (IsCross (Depends graph) lists p q)
  cross_tasks p q u t ne hu ht =
      elim (joined u t) as (λ _. Decided (IsCross (Depends graph) lists p q)) [
        | inl w ↦
            let j = w.0 in
            let i = w.2.0 in
            inl (ne, u, t, hu, ht, i, j, In-to u.rows i w.2.1, In-to t.rows j w.1, In-to (before graph j.0) i w.2.2)
        | inr nw ↦ inr (λ c.
            let i = c.5 in
            let j = c.6 in
            let a = subst (λ (u : RowTask). In i u.rows) (same_task lists p c.1 u c.3 hu) (In-from c.1.rows i c.7) in
            let b = subst (λ (t : RowTask). In j t.rows) (same_task lists q c.2 t c.4 ht) (In-from c.2.rows j c.8) in
            nw j b (i, a, In-from (before graph j.0) i c.9))
      ]

  cross_decided : (p q : Spot) → Decided (IsCross (Depends graph) lists p q)
  cross_decided p q =
      elim (cases_eq p.worker q.worker) as (λ _. Decided (IsCross (Depends graph) lists p q)) [
        | inl e ↦ inr (λ c. c.0 e)
        | inr ne ↦ elim (find lists p) as (λ _. Decided (IsCross (Depends graph) lists p q)) [
          | inr a ↦ inr (λ c. absent p c.1 a c.3)
          | inl u ↦ elim (find lists q) as (λ _. Decided (IsCross (Depends graph) lists p q)) [
            | inr b ↦ inr (λ c. absent q c.2 b c.4)
            | inl t ↦ cross_tasks p q u.0 t.0 ne u.1 t.1
          ]
        ]
      ]

  earlier_decided : (p q : Spot) → Decided (IsEarlier lists p q)
  earlier_decided p q =
      elim (cases_eq p.worker q.worker) as (λ _. Decided (IsEarlier lists p q)) [
        | inr ne ↦ inr (λ w. ne w.0)
        | inl e ↦ elim (cases_lt p.at q.at) as (λ _. Decided (IsEarlier lists p q)) [
          | inr g ↦ inr (λ w. omega (arith, g, w.1))
          | inl l ↦ elim (cases_lt q.at (length (tasks_of lists q.worker))) as (λ _. Decided (IsEarlier lists p q)) [
            | inr g ↦ inr (λ w. omega (arith, g, w.2))
            | inl h ↦ inl (e, l, h)
          ]
        ]
      ]

  plus_decided : (p q : Spot) → Decided (Plus (Depends graph) lists p q)
  plus_decided p q =
      elim (cross_decided p q) as (λ _. Decided (Plus (Depends graph) lists p q)) [
        | inl c ↦ inl (inl c)
        | inr nc ↦ elim (earlier_decided p q) as (λ _. Decided (Plus (Depends graph) lists p q)) [
          | inl e ↦ inl (inr e)
          | inr ne ↦ inr (λ (w : Plus (Depends graph) lists p q). elim w as (λ _. ⊥) [ inl c ↦ nc c | inr e ↦ ne e ])
        ]
      ]

  -- a task of a place is between two others
  abbrev pub Between : Spot → Spot → Spot → Type 0
  Between p q v = Plus (Depends graph) lists p v × Plus (Depends graph) lists v q

  between_decided : (p q v : Spot) → Decided (Between p q v)
  between_decided p q v =
      elim (plus_decided p v) as (λ _. Decided (Between p q v)) [
        | inr na ↦ inr (λ w. na w.0)
        | inl a ↦ elim (plus_decided v q) as (λ _. Decided (Between p q v)) [
          | inr nb ↦ inr (λ w. nb w.1)
          | inl b ↦ inl (a, b)
        ]
      ]

  on_worker : (p q : Spot) (w : ℕ) → Decided ((at : ℕ) × (at < length (tasks_of lists w)) × Between p q (place w at))
  on_worker p q w =
      elim (below (length (tasks_of lists w)) (λ (at : ℕ). Between p q (place w at)) (λ at. between_decided p q (place w at))) as (λ _. Decided ((at : ℕ) × (at < length (tasks_of lists w)) × Between p q (place w at))) [
        | inl a ↦ inl a
        | inr na ↦ inr (λ a. na a.0 a.1 a.2)
      ]

  pub plus_within : (p q : Spot) → Plus (Depends graph) lists p q → q.at < length (tasks_of lists q.worker)
  plus_within p q (inl c) = has-from lists q c.2 c.4
  plus_within p q (inr e) = e.2

  some_worker : (w at : ℕ) (ls : List (List RowTask)) → at < length (get_or ls w []) → w < length ls
  some_worker w at [] h = absurd (omega (arith, h))
  some_worker zero at (l ∷ ls) h = omega arith
  some_worker (suc w) at (l ∷ ls) h = let r = some_worker w at ls h in omega (arith, r)

  pub decide_between : (p q : Spot) → ((v : Spot) × Between p q v) ⊎ ((v : Spot) → Plus (Depends graph) lists p v → Plus (Depends graph) lists v q → ⊥)
  decide_between p q =
      elim (below (length lists) (λ (w : ℕ). (at : ℕ) × (at < length (tasks_of lists w)) × Between p q (place w at)) (on_worker p q)) as (λ _. ((v : Spot) × Between p q v) ⊎ ((v : Spot) → Plus (Depends graph) lists p v → Plus (Depends graph) lists v q → ⊥)) [
        | inl w ↦ inl (place w.0 w.2.0, w.2.2)
        | inr nw ↦ inr (λ v a b.
            let h = plus_within p v a in
            nw v.worker (some_worker v.worker v.at lists h) (v.at, h, (a, b)))
      ]
