-- Each dependence is counted once.
use Rattle.std.proofs.Common.{◌≡◌, ℕ, ◌+◌, ◌∙◌, List, [], Contains, length, get_or, map, sum_by, arith, ap, subst}
use Rattle.std.proofs.lemmas.List.{length-map}
use Rattle.wave_base.specs.declared.types.RowId.{RowId}
use Rattle.row_graph.specs.Rows.{row}
use Rattle.row_graph.specs.Turned.{turned}
use Rattle.row_graph.specs.Predecessors.{ArePredecessors}
use Rattle.row_graph.proofs.Members.{In, In-from, In-to, In-map, In-map_to, In-turned, In-turned_to}
use Rattle.wait_sparsify.proofs.Counting.{distinct_pairs, distinct_map, distinct_turned, length-turned}
use Rattle.wait_sparsify.proofs.Surviving.{climbing_from}
use Rattle.plan_build.specs.Plan.{CountsPairs}

module _ (rows : ℕ) (pairs : List (RowId × RowId)) (graph : List (List RowId)) (are : ArePredecessors rows pairs graph) where
  abbrev entries : List (ℕ × RowId)
  entries = turned 0 graph

  abbrev f : ℕ × RowId → RowId × RowId
  f e = (row e.0, e.1)

  listed_pair : (i j : RowId) → Contains (map f entries) (i, j) → Contains pairs (i, j)
  listed_pair i j c =
      let m = In-map f entries (i, j) (In-from (map f entries) (i, j) c) in
      let e = m.0 in
      let ei : row e.0 ≡ i = ap (λ (q : RowId × RowId). q.0) m.1 in
      let ej : e.1 ≡ j = ap (λ (q : RowId × RowId). q.1) m.1 in
      let t = In-turned 0 graph e.0 e.1 m.2 in
      let z : 0 + t.0 ≡ j.0 = ap (λ (r : RowId). r.0) (t.1 ∙ ej) in
      let k : t.0 ≡ j.0 = omega (arith, z) in
      let a = subst (λ (n : ℕ). In (row e.0) (get_or graph n [])) k t.2 in
      let b = subst (λ (r : RowId). In r (get_or graph j.0 [])) ei a in
      (are.pairs_alone i j).0 (In-to (get_or graph j.0 []) i b)

  pair_listed : (i j : RowId) → Contains pairs (i, j) → Contains (map f entries) (i, j)
  pair_listed i j c =
      let a = In-from (get_or graph j.0 []) i ((are.pairs_alone i j).1 c) in
      let t = In-turned_to 0 graph i.0 j.0 a in
      let g = In-map_to f entries (i.0, row (0 + j.0)) t in
      let z : 0 + j.0 ≡ j.0 = omega arith in
      let e : f (i.0, row (0 + j.0)) ≡ (i, j) = λ x. (i, row (z x)) in
      In-to (map f entries) (i, j) (subst (λ (q : RowId × RowId). In q (map f entries)) e g)

  pub counts_pairs : CountsPairs pairs (sum_by length graph)
  counts_pairs = record {
    list = map f entries;
    distinct = distinct_pairs (map f entries) (distinct_map f entries (λ x y i j e. ap (λ (q : RowId × RowId). (q.0.0, q.1)) e) (distinct_turned 0 graph (λ a. climbing_from 0 (get_or graph a []) (λ d h. omega arith) (are.ascending a))));
    same = λ i j. (listed_pair i j, pair_listed i j);
    long = length-map entries f ∙ length-turned 0 graph;
  }
