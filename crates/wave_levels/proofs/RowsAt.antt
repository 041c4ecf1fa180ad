-- The rows of a level are all rows with it, ascending.
use Rattle.std.proofs.Common.{◌≡◌, ◌↔◌, ℕ, suc, zero, ◌+◌, ◌<◌, ◌≤◌, ◌∙◌, ◌⊎◌, inl, inr, List, [], ◌∷◌, Bool, true, false, cond, eqb, Contains, length, get_or, map, arith, refl, ap, sym, subst}
use Rattle.std.specs.List.{range_with_len, filter}
use Rattle.std.proofs.lemmas.Bool.{cases_eq, cases_lt, eqb-true, eq-eqb}
use Rattle.std.proofs.lemmas.List.{get_or_default, length-map}
use Rattle.std.proofs.lemmas.List.Sums.{length-filter, count_by-le-length}
use Rattle.std.proofs.lemmas.List.FromFn.{length-range_with_len}
use Rattle.wave_base.specs.declared.types.RowId.{RowId}
use Rattle.row_graph.specs.Rows.{row, row_zero}
use Rattle.row_graph.specs.Predecessors.{AreAscending}
use Rattle.row_graph.proofs.Members.{In, In-from, In-to, In-map, In-map_to}
use Rattle.row_graph.proofs.Ascending.{Climbing, Climbing-lower, ascending_from}
use Rattle.wave_levels.specs.Levels.{above, level_at, rows_at}
use Rattle.wave_levels.proofs.Above.{above-attained}

-- a filter keeps what passes
In-cond : (b : Bool) (k j : ℕ) (kept : List ℕ) → In j (cond b (k ∷ kept) kept) → ((b ≡ true) × (k ≡ j)) ⊎ In j kept
In-cond true k j kept (inl e) = inl (refl, e)
In-cond true k j kept (inr h) = inr h
In-cond false k j kept h = inr h

In-cond_skip : (b : Bool) (k j : ℕ) (kept : List ℕ) → In j kept → In j (cond b (k ∷ kept) kept)
In-cond_skip true k j kept h = inr h
In-cond_skip false k j kept h = h

In-filter : (p : ℕ → Bool) (ks : List ℕ) (j : ℕ) → In j (filter p ks) → In j ks × (p j ≡ true)
In-filter p [] j h = absurd h
In-filter p (k ∷ ks) j h =
    elim (In-cond (p k) k j (filter p ks) h) [
      | inl w ↦ (inl w.1, ap p (sym w.1) ∙ w.0)
      | inr w ↦ let r = In-filter p ks j w in (inr r.0, r.1)
    ]

In-filter_to : (p : ℕ → Bool) (ks : List ℕ) (j : ℕ) → In j ks → p j ≡ true → In j (filter p ks)
In-filter_to p [] j h t = absurd h
In-filter_to p (k ∷ ks) j (inl e) t = subst (λ (b : Bool). In j (cond b (k ∷ filter p ks) (filter p ks))) (sym (ap p e ∙ t)) (inl e)
In-filter_to p (k ∷ ks) j (inr h) t = In-cond_skip (p k) k j (filter p ks) (In-filter_to p ks j h t)

In-range : (a n j : ℕ) → In j (range_with_len a n) → (a ≤ j) × (j < a + n)
In-range a zero j h = absurd h
In-range a (suc n) j (inl e) = (omega (arith, e), omega (arith, e))
In-range a (suc n) j (inr h) = let r = In-range (a + 1) n j h in (omega (arith, r.0), omega (arith, r.1))

In-range_to : (a n j : ℕ) → a ≤ j → j < a + n → In j (range_with_len a n)
In-range_to a zero j l h = absurd (omega (arith, l, h))
In-range_to a (suc n) j l h = elim (cases_eq a j) [ inl e ↦ inl e | inr ne ↦ inr (In-range_to (a + 1) n j (omega (arith, l, ne)) (omega (arith, h))) ]

pub rows_at-members : (levels : List ℕ) (level : ℕ) (r : RowId) → Contains (rows_at levels level) r ↔ ((r.0 < length levels) × (level_at levels r ≡ level))
rows_at-members levels level r =
    let p : ℕ → Bool = λ j. eqb (get_or levels j 0) level in
    let ks : List ℕ = range_with_len 0 (length levels) in (
      λ h.
          let m = In-map row (filter p ks) r (In-from (rows_at levels level) r h) in
          let e : m.0 ≡ r.0 = ap (λ (r : RowId). r.0) m.1 in
          let f = In-filter p ks m.0 m.2 in
          let g = In-range 0 (length levels) m.0 f.0 in
          let t : get_or levels m.0 0 ≡ level = eqb-true (get_or levels m.0 0) level f.1 in
          (omega (arith, g, e), ap (λ j. get_or levels j 0) (sym e) ∙ t),
      λ h.
          let f = In-filter_to p ks r.0 (In-range_to 0 (length levels) r.0 (omega arith) (omega (arith, h.0))) (eq-eqb (get_or levels r.0 0) level h.1) in
          In-to (rows_at levels level) r (In-map_to row (filter p ks) r.0 f),
    )

Climbing-cond : (b : Bool) (a : ℕ) (kept : List ℕ) → Climbing (a + 1) (map row kept) → Climbing a (map row (cond b (a ∷ kept) kept))
Climbing-cond true a kept h = (omega arith, h)
Climbing-cond false a kept h = Climbing-lower a (a + 1) (map row kept) (omega arith) h

Climbing-range : (p : ℕ → Bool) (a n : ℕ) → Climbing a (map row (filter p (range_with_len a n)))
Climbing-range p a zero = tt
Climbing-range p a (suc n) = Climbing-cond (p a) a (filter p (range_with_len (a + 1) n)) (Climbing-range p (a + 1) n)

pub rows_at-ascending : (levels : List ℕ) (level : ℕ) → AreAscending (rows_at levels level)
rows_at-ascending levels level = ascending_from 0 (rows_at levels level) (Climbing-range (λ j. eqb (get_or levels j 0) level) 0 (length levels))

-- the greatest level has a row
pub some_row : (levels : List ℕ) (rows : List RowId) (level : ℕ) → ((r : RowId) → Contains rows r ↔ ((r.0 < length levels) × (level_at levels r ≡ level))) → above levels ≡ level + 1 → 0 < length rows
some_row levels rows level m e =
    let a = above-attained levels level e in
    let c = (m (row a.0)).1 (a.1, a.2) in
    omega (arith, c.1)

-- of ascending rows the first with a level is the least
pub least_at : (levels : List ℕ) (level : ℕ) (rows : List RowId) (at : ℕ) → at < length rows → AreAscending rows → ((k : ℕ) → k < at → level_at levels (get_or rows k row_zero) ≡ level → ⊥) → (i : RowId) → Contains rows i → level_at levels i ≡ level → (get_or rows at row_zero).0 ≤ i.0
least_at levels level rows at l asc none i (k, h, e) lv =
    let d : get_or rows k row_zero ≡ i = get_or_default rows k row_zero i h ∙ e in
    elim (cases_lt k at) [
      | inl lt ↦ absurd (none k lt (ap (level_at levels) d ∙ lv))
      | inr ge ↦ elim (cases_eq at k) [
        | inl q ↦ let n : (get_or rows at row_zero).0 ≡ i.0 = ap (λ j. (get_or rows j row_zero).0) q ∙ ap (λ (r : RowId). r.0) d in omega (arith, n)
        | inr ne ↦
            let a = asc at k row_zero (omega (arith, ge, ne)) h in
            let n : (get_or rows k row_zero).0 ≡ i.0 = ap (λ (r : RowId). r.0) d in
            omega (arith, a, n)
      ]
    ]

pub none_passed : (levels : List ℕ) (level : ℕ) (rows : List RowId) (at : ℕ) → length rows ≤ at → ((k : ℕ) → k < at → level_at levels (get_or rows k row_zero) ≡ level → ⊥) → (i : RowId) × Contains rows i × (level_at levels i ≡ level) → ⊥
none_passed levels level rows at l none (i, (k, h, e), lv) =
    let d : get_or rows k row_zero ≡ i = get_or_default rows k row_zero i h ∙ e in
    none k (omega (arith, l, h)) (ap (level_at levels) d ∙ lv)

-- the first of all rows with a level
pub first_is_least : (levels : List ℕ) (level : ℕ) (rows : List RowId) → ((r : RowId) → Contains rows r ↔ ((r.0 < length levels) × (level_at levels r ≡ level))) → AreAscending rows → (r : RowId) → r.0 < length levels → level_at levels r ≡ level → (get_or rows 0 row_zero).0 ≤ r.0
first_is_least levels level rows m asc r l e =
    let c = (m r).1 (l, e) in
    least_at levels level rows 0 (omega (arith, c.1)) asc (λ k h. absurd (omega (arith, h))) r c e

pub rows_at-few : (levels : List ℕ) (level : ℕ) → length (rows_at levels level) ≤ length levels
rows_at-few levels level =
    let ks : List ℕ = range_with_len 0 (length levels) in
    let p : ℕ → Bool = λ j. eqb (get_or levels j 0) level in
    omega (arith, length-map (filter p ks) row, length-filter p ks, count_by-le-length p ks, length-range_with_len 0 (length levels))
