-- The predecessors that a search gives.
use Rattle.std.proofs.Common.{◌≡◌, ◌↔◌, ℕ, ◌+◌, ◌^◌, ◌<◌, ◌≤◌, ◌∙◌, ◌++◌, inl, inr, List, [], ◌∷◌, All, Contains, length, get_or, arith, ap, sym, subst}
use Rattle.std.proofs.lemmas.Bool.{cases_lt}
use Rattle.std.proofs.lemmas.List.{get_or_append_left, get_or_push, length_push, get_or_past, get_or_default}
use Rattle.std.proofs.lemmas.List.Elements.{Contains-get_or, All-contains, Contains-push, Contains-push_cases, Contains-append_left}
use Rattle.wave_base.specs.declared.types.RowId.{RowId}
use Rattle.row_graph.specs.Rows.{row}
use Rattle.row_graph.specs.Predecessors.{before, AreAscending, IsGraph, ArePredecessors, AreRowsBefore}

-- the predecessors of `last` among the rows below a number
pub record RowsSoFar (pairs : List (RowId × RowId)) (last : RowId) (below : ℕ) (rows : List RowId) : Type 0 where
  pub members : (i : RowId) → Contains rows i ↔ ((i.0 < below) × Contains pairs (i, last))
  pub ascending : AreAscending rows

pub rows_none : (pairs : List (RowId × RowId)) (last : RowId) → RowsSoFar pairs last 0 []
rows_none pairs last = record {
  members = λ i. (λ h. absurd (omega (arith, h.1)), λ h. absurd (omega (arith, h.0)));
  ascending = λ i j d l m. absurd (omega (arith, m));
}

pub rows_skip : (pairs : List (RowId × RowId)) (last : RowId) (below : ℕ) (rows : List RowId) → RowsSoFar pairs last below rows → (Contains pairs (row below, last) → ⊥) → RowsSoFar pairs last (below + 1) rows
rows_skip pairs last below rows s absent = record {
  members = λ i. (
    λ h. let m = (s.members i).0 h in (omega (arith, m.0), m.1),
    λ h. elim (cases_lt i.0 below) [
      | inl l ↦ (s.members i).1 (l, h.1)
      | inr g ↦
          let e : i ≡ row below = ap row (omega (arith, h.0, g)) in
          absurd (absent (subst (λ (i : RowId). Contains pairs (i, last)) e h.1))
    ],
  );
  ascending = s.ascending;
}

ascending-push : (rows : List RowId) (r : RowId) → AreAscending rows → ((i : RowId) → Contains rows i → i.0 < r.0) → AreAscending (rows ++ r ∷ [])
ascending-push rows r asc below i j d l m =
    let n = length_push rows r in
    let li : i < length rows = omega (arith, l, m, n) in
    let a : (get_or (rows ++ r ∷ []) i d).0 ≡ (get_or rows i d).0 = ap (λ (r : RowId). r.0) (get_or_append_left rows (r ∷ []) d i li) in
    elim (cases_lt j (length rows)) [
      | inl lj ↦
          let b : (get_or (rows ++ r ∷ []) j d).0 ≡ (get_or rows j d).0 = ap (λ (r : RowId). r.0) (get_or_append_left rows (r ∷ []) d j lj) in
          omega (arith, a, b, asc i j d l lj)
      | inr gj ↦
          let b : (get_or (rows ++ r ∷ []) j d).0 ≡ r.0 = ap (λ (r : RowId). r.0) (get_or_push rows r d j (omega (arith, m, n, gj))) in
          omega (arith, a, b, below (get_or rows i d) (Contains-get_or rows i d li))
    ]

pub rows_take : (pairs : List (RowId × RowId)) (last : RowId) (below : ℕ) (rows : List RowId) → RowsSoFar pairs last below rows → Contains pairs (row below, last) → RowsSoFar pairs last (below + 1) (rows ++ (row below) ∷ [])
rows_take pairs last below rows s present = record {
  members = λ i. (
    λ h. elim (Contains-push_cases rows (row below) i h) [
      | inl m ↦ let q = (s.members i).0 m in (omega (arith, q.0), q.1)
      | inr e ↦
          let n : below ≡ i.0 = ap (λ (r : RowId). r.0) e in
          (omega (arith, n), subst (λ (i : RowId). Contains pairs (i, last)) e present)
    ],
    λ h. elim (cases_lt i.0 below) [
      | inl l ↦ Contains-append_left rows (row below ∷ []) i ((s.members i).1 (l, h.1))
      | inr g ↦
          let e : row below ≡ i = ap row (omega (arith, h.0, g)) in
          subst (λ (i : RowId). Contains (rows ++ (row below) ∷ []) i) e (Contains-push rows (row below))
    ],
  );
  ascending = ascending-push rows (row below) s.ascending (λ i h. ((s.members i).0 h).0);
}

pub rows_all : (pairs : List (RowId × RowId)) (last : RowId) (rows : List RowId) → All (λ (p : RowId × RowId). p.0.0 < p.1.0) pairs → RowsSoFar pairs last last.0 rows → AreRowsBefore pairs last rows
rows_all pairs last rows earlier s = record {
  pairs_alone = λ i. (
    λ h. ((s.members i).0 h).1,
    λ h. (s.members i).1 (All-contains (λ (p : RowId × RowId). p.0.0 < p.1.0) pairs (i, last) earlier h, h),
  );
  ascending = s.ascending;
}

-- a pair that is nowhere so far
pub pair_at : (pairs : List (RowId × RowId)) (k : ℕ) (d : RowId × RowId) (first second : RowId) → k < length pairs → (get_or pairs k d).0.0 ≡ first.0 → (get_or pairs k d).1.0 ≡ second.0 → Contains pairs (first, second)
pair_at pairs k d first second l a b =
    let e : get_or pairs k d ≡ (first, second) = λ i. (row (a i), row (b i)) in
    subst (λ (p : RowId × RowId). Contains pairs p) e (Contains-get_or pairs k d l)

pub pair_nowhere : (pairs : List (RowId × RowId)) (d : RowId × RowId) (at : ℕ) (first second : RowId) → length pairs ≤ at → ((k : ℕ) → k < at → (get_or pairs k d).0.0 ≡ first.0 → (get_or pairs k d).1.0 ≡ second.0 → ⊥) → Contains pairs (first, second) → ⊥
pair_nowhere pairs d at first second l none (k, h, e) =
    let q : get_or pairs k d ≡ (first, second) = get_or_default pairs k d (first, second) h ∙ e in
    none k (omega (arith, l, h)) (ap (λ (p : RowId × RowId). p.0.0) q) (ap (λ (p : RowId × RowId). p.1.0) q)

-- the graph of the first rows
pub record GraphSoFar (pairs : List (RowId × RowId)) (rows : ℕ) (graph : List (List RowId)) : Type 0 where
  pub many : length graph ≡ rows
  pub each : (k : ℕ) → k < rows → AreRowsBefore pairs (row k) (before graph k)

pub graph_more : (pairs : List (RowId × RowId)) (rows : ℕ) (graph : List (List RowId)) (more : List RowId) → GraphSoFar pairs rows graph → AreRowsBefore pairs (row rows) more → GraphSoFar pairs (rows + 1) (graph ++ more ∷ [])
graph_more pairs rows graph more s is = record {
  many = length_push graph more ∙ omega (arith, s.many);
  each = λ k h. elim (cases_lt k rows) as (λ _. AreRowsBefore pairs (row k) (before (graph ++ more ∷ []) k)) [
    | inl l ↦ subst (AreRowsBefore pairs (row k)) (sym (get_or_append_left graph (more ∷ []) [] k (omega (arith, s.many)))) (s.each k l)
    | inr g ↦
        let e : rows ≡ k = omega (arith, h, g) in
        let here = subst (AreRowsBefore pairs (row rows)) (sym (get_or_push graph more [] rows s.many)) is in
        subst (λ (k : ℕ). AreRowsBefore pairs (row k) (before (graph ++ more ∷ []) k)) e here
  ];
}

module _ (pairs : List (RowId × RowId)) (rows : ℕ) (graph : List (List RowId)) (earlier : All (λ (p : RowId × RowId). p.0.0 < p.1.0) pairs) (below : All (λ (p : RowId × RowId). p.1.0 < rows) pairs) (s : GraphSoFar pairs rows graph) where
  ascending_at : (j : ℕ) → AreAscending (before graph j)
  ascending_at j = elim (cases_lt j rows) [
    | inl l ↦ (s.each j l).ascending
    | inr g ↦ subst AreAscending (sym (get_or_past graph j [] (omega (arith, s.many, g)))) (λ i j d l m. absurd (omega (arith, m)))
  ]

  pair_from : (j : ℕ) (i : RowId) → Contains (before graph j) i → Contains pairs (i, row j)
  pair_from j i h = elim (cases_lt j rows) [
    | inl l ↦ ((s.each j l).pairs_alone i).0 h
    | inr g ↦ absurd (omega (arith, (subst (λ (rs : List RowId). Contains rs i) (get_or_past graph j [] (omega (arith, s.many, g))) h).1))
  ]

  pub plain_predecessors : ArePredecessors rows pairs graph
  plain_predecessors = record {
    each_row = s.many;
    pairs_alone = λ i j. (
      pair_from j.0 i,
      λ h. ((s.each j.0 (All-contains (λ (p : RowId × RowId). p.1.0 < rows) pairs (i, j) below h)).pairs_alone i).1 h,
    );
    ascending = ascending_at;
  }

  pub plain_graph : rows < 2 ^ 32 → IsGraph graph
  plain_graph small = (
    omega (arith, s.many),
    λ j k d l. All-contains (λ (p : RowId × RowId). p.0.0 < p.1.0) pairs (get_or (before graph j) k d, row j) earlier (pair_from j (get_or (before graph j) k d) (Contains-get_or (before graph j) k d l)),
    ascending_at,
  )
