-- Cross pairs and kept waits, by number and by place.
use Rattle.std.proofs.Common.{◌≡◌, ℕ, ◌+◌, ◌<◌, ◌≤◌, ◌∙◌, inl, inr, List, [], AllPairs, Contains, length, get_or, map, replicate, arith, ap, sym, subst}
use Rattle.std.proofs.lemmas.List.{get_or-map, length-map}
use Rattle.std.proofs.lemmas.List.Elements.{All-contains, Contains-get_or}
use Rattle.wave_base.specs.declared.types.RowId.{RowId}
use Rattle.row_graph.specs.Rows.{row, row_zero}
use Rattle.row_graph.specs.Predecessors.{before, IsGraph, ArePredecessors}
use Rattle.row_graph.proofs.Members.{In, In-from, In-to, In-map, In-map_to}
use Rattle.row_graph.proofs.Ascending.{ascending_from}
use Rattle.sched_types.specs.declared.lists.Wait.{Wait}
use Rattle.sched_types.specs.declared.sched.RowTask.{RowTask}
use Rattle.sched_types.specs.Order.{Spot}
use Rattle.sched_types.specs.Kept.{IsCross, Plus, IsKept, AreKeptWaits}
use Rattle.wait_sparsify.specs.Depends.{Depends, ArePlaced}
use Rattle.wait_sparsify.specs.Numbered.{owners_from, places_from, rows_from}
use Rattle.wait_sparsify.specs.Written.{written_lists}
use Rattle.wait_sparsify.specs.Crossing.{crossing_lists}
use Rattle.wait_sparsify.specs.Attached.{wait_for, waits_for}
use Rattle.wait_sparsify.proofs.Numbering.{Has, number, number_below, number_is, owner_at, place_at, has_place, owners_rise}
use Rattle.wait_sparsify.proofs.Places.{num, place, has-from, at-from, rows_of-at, listed, row_below, row_stands, task_is}
use Rattle.wait_sparsify.proofs.Crossings.{In-lists, In-lists_to}
use Rattle.wait_sparsify.proofs.Surviving.{climbing_from}
use Rattle.wait_sparsify.proofs.Keeping.{IsCrossList, Next, Keeps, AreKeptAt}

-- placed tasks, and for each number the numbers before it on other workers
pub record Setting (graph : List (List RowId)) (lists : List (List RowTask)) (cross : List (List RowId)) : Type 0 where
  pub graph_is : IsGraph graph
  pub placed : ArePlaced (length graph) lists
  pub made : ArePredecessors (length (rows_from lists)) (crossing_lists graph (owners_from 0 lists) (written_lists 0 (rows_from lists) (replicate (length graph) 0)) 0 (rows_from lists)) cross

-- what the calls gave, for the tasks that were handed in
pub setting : (graph : List (List RowId)) (lists now : List (List RowTask)) (cross : List (List RowId)) → now ≡ lists → ArePlaced (length graph) lists → IsGraph graph → ArePredecessors (length (rows_from now)) (crossing_lists graph (owners_from 0 now) (written_lists 0 (rows_from now) (replicate (length graph) 0)) 0 (rows_from now)) cross → Setting graph lists cross
setting graph lists now cross e placed is made = record {
  graph_is = is;
  placed = placed;
  made = subst (λ (ls : List (List RowTask)). ArePredecessors (length (rows_from ls)) (crossing_lists graph (owners_from 0 ls) (written_lists 0 (rows_from ls) (replicate (length graph) 0)) 0 (rows_from ls)) cross) e made;
}

module _ (graph : List (List RowId)) (lists : List (List RowTask)) (graph_is : IsGraph graph) (placed : ArePlaced (length graph) lists) where
  abbrev owners : List ℕ
  owners = owners_from 0 lists

  abbrev tasks : List ℕ
  tasks = written_lists 0 (rows_from lists) (replicate (length graph) 0)

  abbrev pairs : List (RowId × RowId)
  pairs = crossing_lists graph owners tasks 0 (rows_from lists)

  abbrev own : ℕ → ℕ
  own k = get_or owners k 0

  -- a row of one task and a later row of another, on different workers
  pub record CrossNum (k l : ℕ) : Type 0 where
    pub j : RowId
    pub i : RowId
    pub j_in : In j (get_or (rows_from lists) l [])
    pub i_in : In i (get_or (rows_from lists) k [])
    pub dep : In i (before graph j.0)
    pub differ : get_or (owners_from 0 lists) k 0 ≡ get_or (owners_from 0 lists) l 0 → ⊥

  pub pair_num : (k l : ℕ) → Contains (crossing_lists graph (owners_from 0 lists) (written_lists 0 (rows_from lists) (replicate (length graph) 0)) 0 (rows_from lists)) (row k, row l) → CrossNum k l
  pair_num k l p =
      let m = In-lists graph owners tasks 0 (rows_from lists) (row k, row l) (In-from pairs (row k, row l) p) in
      let e0 : k ≡ get_or tasks m.i.0 0 = ap (λ (q : RowId × RowId). q.0.0) m.pair.0 in
      let e1 : l ≡ 0 + m.list = ap (λ (q : RowId × RowId). q.1.0) m.pair.0 in
      let e2 : m.list ≡ l = omega (arith, e1) in
      let below = row_below (length graph) lists placed m.list m.j m.j_in in
      let lesser : m.i.0 < m.j.0 = All-contains (λ (i : RowId). i.0 < m.j.0) (before graph m.j.0) m.i (graph_is.1 m.j.0) (In-to (before graph m.j.0) m.i m.i_in) in
      let a = row_stands (length graph) lists placed m.i (omega (arith, below, lesser)) in
      let t : get_or tasks m.i.0 0 ≡ a.0 = task_is (length graph) lists placed a.0 m.i a.1 in
      let e3 : a.0 ≡ k = sym t ∙ sym e0 in
      let apart : own k ≡ own l → ⊥ = λ q. (
      let x : own (get_or tasks m.i.0 0) ≡ own k = ap own (sym e0) in
      let y : own l ≡ own (0 + m.list) = ap own e1 in
      let z : own (get_or tasks m.i.0 0) ≡ own (0 + m.list) = x ∙ (q ∙ y) in
      m.pair.1 z) in
      record {
        j = m.j;
        i = m.i;
        j_in = subst (λ (q : ℕ). In m.j (get_or (rows_from lists) q [])) e2 m.j_in;
        i_in = subst (λ (q : ℕ). In m.i (get_or (rows_from lists) q [])) e3 a.1;
        dep = m.i_in;
        differ = apart;
      }

  pub num_pair : (k l : ℕ) → CrossNum k l → Contains (crossing_lists graph (owners_from 0 lists) (written_lists 0 (rows_from lists) (replicate (length graph) 0)) 0 (rows_from lists)) (row k, row l)
  num_pair k l c =
      let t : get_or tasks c.i.0 0 ≡ k = task_is (length graph) lists placed k c.i c.i_in in
      let z : 0 + l ≡ l = omega arith in
      let apart : own (get_or tasks c.i.0 0) ≡ own (0 + l) → ⊥ = λ q. (
      let x : own k ≡ own (get_or tasks c.i.0 0) = ap own (sym t) in
      let y : own (0 + l) ≡ own l = ap own z in
      let w : own k ≡ own l = x ∙ (q ∙ y) in
      c.differ w) in
      let g = In-lists_to graph owners tasks 0 (rows_from lists) l c.j c.i c.j_in c.dep apart in
      let e : (row (get_or tasks c.i.0 0), row (0 + l)) ≡ (row k, row l) = λ x. (row (t x), row (z x)) in
      let g' = subst (λ (q : RowId × RowId). In q pairs) e g in
      In-to pairs (row k, row l) g'

module _ (graph : List (List RowId)) (lists : List (List RowTask)) (cross : List (List RowId)) (s : Setting graph lists cross) where
  abbrev own_of : ℕ → ℕ
  own_of k = get_or (owners_from 0 lists) k 0

  abbrev Num : ℕ → ℕ → Type 0
  Num k l = CrossNum graph lists s.graph_is s.placed k l

  pub cross_num : (k l : ℕ) → In (row k) (get_or cross l []) → CrossNum graph lists s.graph_is s.placed k l
  cross_num k l h =
      pair_num graph lists s.graph_is s.placed k l ((s.made.pairs_alone (row k) (row l)).0 (In-to (get_or cross l []) (row k) h))

  pub num_cross : (k l : ℕ) → CrossNum graph lists s.graph_is s.placed k l → In (row k) (get_or cross l [])
  num_cross k l c =
      In-from (get_or cross l []) (row k) ((s.made.pairs_alone (row k) (row l)).1 (num_pair graph lists s.graph_is s.placed k l c))

  pub is_list : IsCrossList cross (owners_from 0 lists)
  is_list = record {
    members = λ l u h. (
        let c = cross_num u.0 l h in
        let b = listed (rows_from lists) u.0 c.i c.i_in in
        omega (arith, b, s.made.each_row));
    climbs = λ l. climbing_from 0 (get_or cross l []) (λ d h. omega arith) (s.made.ascending l);
    rises = λ a b h l. owners_rise lists a b h (omega (arith, l, s.made.each_row));
    apart = λ l u h. (cross_num u.0 l h).differ;
  }

  owner_of : (p : Spot) → Has lists p.worker p.at → own_of (num lists p) ≡ p.worker
  owner_of p h = let z : 0 + p.worker ≡ p.worker = omega arith in owner_at 0 lists p.worker p.at h ∙ z

  pub cross_place : (p q : Spot) → Has lists p.worker p.at → Has lists q.worker q.at → In (row (num lists p)) (get_or cross (num lists q) []) → IsCross (Depends graph) lists p q
  cross_place p q hp hq h =
      let c = cross_num (num lists p) (num lists q) h in
      let u = at-from lists p hp in
      let t = at-from lists q hq in
      let i_in = subst (λ (rows : List RowId). In c.i rows) (rows_of-at lists p u.0 u.1) c.i_in in
      let j_in = subst (λ (rows : List RowId). In c.j rows) (rows_of-at lists q t.0 t.1) c.j_in in
      let ne : p.worker ≡ q.worker → ⊥ = λ e. c.differ (owner_of p hp ∙ e ∙ sym (owner_of q hq)) in
      (ne, u.0, t.0, u.1, t.1, c.i, c.j, In-to u.0.rows c.i i_in, In-to t.0.rows c.j j_in, In-to (before graph c.j.0) c.i c.dep)

  pub place_cross : (p q : Spot) → IsCross (Depends graph) lists p q → In (row (num lists p)) (get_or cross (num lists q) [])
  place_cross p q w =
      let u = w.1 in
      let t = w.2 in
      let i = w.5 in
      let j = w.6 in
      let hp = has-from lists p u w.3 in
      let hq = has-from lists q t w.4 in
      num_cross (num lists p) (num lists q) (record {
        j = j;
        i = i;
        j_in = subst (λ (rows : List RowId). In j rows) (sym (rows_of-at lists q t w.4)) (In-from t.rows j w.8);
        i_in = subst (λ (rows : List RowId). In i rows) (sym (rows_of-at lists p u w.3)) (In-from u.rows i w.7);
        dep = In-from (before graph j.0) i w.9;
        differ = λ e. w.0 (sym (owner_of p hp) ∙ e ∙ owner_of q hq);
      })

  pub next_place : (p q : Spot) → Has lists p.worker p.at → Has lists q.worker q.at → Next cross (owners_from 0 lists) (num lists p) (num lists q) → Plus (Depends graph) lists p q
  next_place p q hp hq (inl c) = inl (cross_place p q hp hq c)
  next_place p q hp hq (inr d) =
      let w : p.worker ≡ q.worker = sym (owner_of p hp) ∙ d.0 ∙ owner_of q hq in
      let b : number lists p.worker 0 ≡ number lists q.worker 0 = ap (λ w. number lists w 0) w in
      inr (w, omega (arith, number_is lists p.worker p.at, number_is lists q.worker q.at, b, d.1), hq)

  pub place_next : (p q : Spot) → Has lists p.worker p.at → Has lists q.worker q.at → Plus (Depends graph) lists p q → Next cross (owners_from 0 lists) (num lists p) (num lists q)
  place_next p q hp hq (inl c) = inl (place_cross p q c)
  place_next p q hp hq (inr d) =
      let b : number lists p.worker 0 ≡ number lists q.worker 0 = ap (λ w. number lists w 0) d.0 in
      inr (owner_of p hp ∙ d.0 ∙ sym (owner_of q hq), omega (arith, number_is lists p.worker p.at, number_is lists q.worker q.at, b, d.1), omega (arith, number_below lists q.worker q.at hq, s.made.each_row))

  pub plus_second : (p q : Spot) → Plus (Depends graph) lists p q → Has lists q.worker q.at
  plus_second p q (inl w) = has-from lists q w.2 w.4
  plus_second p q (inr d) = d.2

  pub place_keeps : (p q : Spot) → IsKept (Depends graph) lists p q → Keeps cross (owners_from 0 lists) (num lists p) (num lists q)
  place_keeps p q k =
      let hp = has-from lists p k.0.1 k.0.3 in
      let hq = has-from lists q k.0.2 k.0.4 in (
        place_cross p q k.0,
        λ m x y.
            let l : m < length cross = elim x as (λ _. m < length cross) [ inl c ↦ listed cross m (row (num lists p)) c | inr d ↦ d.2 ] in
            let w = has_place lists m (omega (arith, l, s.made.each_row)) in
            let r : Spot = place w.0 w.1 in
            let x' = subst (λ (m : ℕ). Next cross (owners_from 0 lists) (num lists p) m) (sym w.3) x in
            let y' = subst (λ (m : ℕ). Next cross (owners_from 0 lists) m (num lists q)) (sym w.3) y in
            k.1 r (next_place p r hp w.2 x') (next_place r q w.2 hq y'),
      )

  pub keeps_place : (p q : Spot) → Has lists p.worker p.at → Has lists q.worker q.at → Keeps cross (owners_from 0 lists) (num lists p) (num lists q) → IsKept (Depends graph) lists p q
  keeps_place p q hp hq k = (
    cross_place p q hp hq k.0,
    λ r x y.
        let hr = plus_second p r x in
        k.1 (num lists r) (place_next p r hp hr x) (place_next r q hr hq y),
  )

  module _ (q : Spot) (hq : Has lists q.worker q.at) (ks : List RowId) (kept : AreKeptAt cross (owners_from 0 lists) (num lists q) ks) where
    abbrev f : RowId → Wait
    f u = wait_for (owners_from 0 lists) (places_from lists) u

    waits_rise : AllPairs (λ (a : Wait) (b : Wait). a.worker < b.worker) (map f ks)
    waits_rise i j d l m =
        let n : j < length ks = omega (arith, m, length-map ks f) in
        let a = get_or ks i row_zero in
        let b = get_or ks j row_zero in
        let ia = In-from ks a (Contains-get_or ks i row_zero (omega (arith, l, n))) in
        let ib = In-from ks b (Contains-get_or ks j row_zero n) in
        let lt = ascending_from 0 ks kept.1 i j row_zero l n in
        let ka = (kept.0 a.0).0 ia in
        let kb = (kept.0 b.0).0 ib in
        let top = is_list.members (num lists q) b kb.0 in
        let r = is_list.rises a.0 b.0 (omega (arith, lt)) top in
        let ne : own_of a.0 ≡ own_of b.0 → ⊥ = λ e. ka.1 b.0 (inr (e, lt, top)) (inl kb.0) in
        let ea : (get_or (map f ks) i d).worker ≡ own_of a.0 = ap (λ (w : Wait). w.worker) (get_or-map f ks i row_zero d (omega (arith, l, n))) in
        let eb : (get_or (map f ks) j d).worker ≡ own_of b.0 = ap (λ (w : Wait). w.worker) (get_or-map f ks j row_zero d n) in
        omega (arith, ea, eb, r, ne)

    some_task : (wait : Wait) → Contains (map f ks) wait → 1 ≤ wait.count
    some_task wait c =
        let m = In-map f ks wait (In-from (map f ks) wait c) in
        let e : get_or (places_from lists) m.0.0 0 + 1 ≡ wait.count = ap (λ (w : Wait). w.count) m.1 in
        omega (arith, e)

    wait_kept : (first : Spot) → Contains (map f ks) (record { worker = first.worker; count = first.at + 1 }) → IsKept (Depends graph) lists first q
    wait_kept first c =
        let m = In-map f ks (record { worker = first.worker; count = first.at + 1 }) (In-from (map f ks) (record { worker = first.worker; count = first.at + 1 }) c) in
        let u = m.0 in
        let ew : own_of u.0 ≡ first.worker = ap (λ (w : Wait). w.worker) m.1 in
        let ec : get_or (places_from lists) u.0 0 + 1 ≡ first.at + 1 = ap (λ (w : Wait). w.count) m.1 in
        let k = (kept.0 u.0).0 m.2 in
        let top = is_list.members (num lists q) u k.0 in
        let w = has_place lists u.0 (omega (arith, top, s.made.each_row)) in
        let r : Spot = place w.0 w.1 in
        let e1 : w.0 ≡ first.worker = sym (owner_of r w.2) ∙ ap own_of w.3 ∙ ew in
        let e3 : w.1 ≡ get_or (places_from lists) u.0 0 = sym (place_at lists w.0 w.1 w.2) ∙ ap (λ k. get_or (places_from lists) k 0) w.3 in
        let e2 : w.1 ≡ first.at = omega (arith, e3, ec) in
        let e : r ≡ first = λ x. record { worker = e1 x; at = e2 x } in
        subst (λ (p : Spot). IsKept (Depends graph) lists p q) e (keeps_place r q w.2 hq (subst (λ (u : ℕ). Keeps cross (owners_from 0 lists) u (num lists q)) (sym w.3) k))

    kept_wait : (first : Spot) → IsKept (Depends graph) lists first q → Contains (map f ks) (record { worker = first.worker; count = first.at + 1 })
    kept_wait first k =
        let hp = has-from lists first k.0.1 k.0.3 in
        let i = (kept.0 (num lists first)).1 (place_keeps first q k) in
        let g = In-map_to f ks (row (num lists first)) i in
        let e1 = owner_of first hp in
        let e2 = place_at lists first.worker first.at hp in
        let target : Wait = record { worker = first.worker; count = first.at + 1 } in
        let e : f (row (num lists first)) ≡ target = λ x. record { worker = e1 x; count = e2 x + 1 } in
        In-to (map f ks) target (subst (λ (w : Wait). In w (map f ks)) e g)

    pub are_kept : AreKeptWaits (Depends graph) lists q (waits_for (owners_from 0 lists) (places_from lists) ks)
    are_kept = record {
      ascending = waits_rise;
      some_task = some_task;
      kept_alone = λ first. (wait_kept first, kept_wait first);
    }
