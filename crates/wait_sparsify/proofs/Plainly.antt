-- What a search gives, in the words of the tasks that were handed in.
use Rattle.std.proofs.Common.{◌≡◌, ℕ, ◌<◌, ◌∙◌, inl, inr, List, [], length, get_or, arith, ap, subst}
use Rattle.std.proofs.lemmas.List.Elements.{Contains-get_or}
use Rattle.wave_base.specs.declared.types.RowId.{RowId}
use Rattle.row_graph.specs.Rows.{row}
use Rattle.row_graph.specs.Predecessors.{before, IsGraph}
use Rattle.row_graph.proofs.Members.{In-from, In-to}
use Rattle.sched_types.specs.declared.sched.RowTask.{RowTask}
use Rattle.wait_sparsify.specs.Depends.{ArePlaced}
use Rattle.wait_sparsify.specs.Numbered.{owners_from, rows_from}
use Rattle.wait_sparsify.specs.Searched.{AreSelectedLists, Crosses, IsNext, IsNeeded}
use Rattle.wait_sparsify.proofs.Places.{listed}
use Rattle.wait_sparsify.proofs.Keeping.{Next, AreKeptAt}
use Rattle.wait_sparsify.proofs.Surviving.{climbing_from}
use Rattle.wait_sparsify.proofs.Transport.{Setting, pair_num, num_pair, is_list}

-- the lists of crossed tasks are those that pairs give
pub searched : (graph : List (List RowId)) (lists : List (List RowTask)) (cross : List (List RowId)) → IsGraph graph → ArePlaced (length graph) lists → AreSelectedLists (Crosses graph (owners_from 0 lists) (rows_from lists)) (length (rows_from lists)) cross → Setting graph lists cross
searched graph lists cross is placed found = record {
  graph_is = is;
  placed = placed;
  made = record {
    each_row = found.0;
    pairs_alone = λ i j. (
      λ c.
          let l = listed cross j.0 i (In-from (get_or cross j.0 []) i c) in
          let m = ((found.1 j.0 (omega (arith, l, found.0))).members i).0 c in
          let w = m.1.1 in
          let b = w.0 in
          let v = w.2 in
          let a = v.0 in
          num_pair graph lists is placed i.0 j.0 (record {
            j = b;
            i = a;
            j_in = In-from (get_or (rows_from lists) j.0 []) b w.1;
            i_in = In-from (get_or (rows_from lists) i.0 []) a v.1;
            dep = In-from (before graph b.0) a v.2;
            differ = m.1.0;
          }),
      λ p.
          let c = pair_num graph lists is placed i.0 j.0 p in
          let l = listed (rows_from lists) j.0 c.j c.j_in in
          let k = listed (rows_from lists) i.0 c.i c.i_in in
          ((found.1 j.0 l).members i).1 (k, (c.differ, (c.j, In-to (get_or (rows_from lists) j.0 []) c.j c.j_in, (c.i, In-to (get_or (rows_from lists) i.0 []) c.i c.i_in, In-to (before graph c.j.0) c.i c.dep)))),
    );
    ascending = λ j. (λ a b d l m.
        let h = In-from (get_or cross j []) (get_or (get_or cross j []) b d) (Contains-get_or (get_or cross j []) b d m) in
        (found.1 j (omega (arith, listed cross j (get_or (get_or cross j []) b d) h, found.0))).ascending a b d l m);
  };
}

module _ (graph : List (List RowId)) (lists : List (List RowTask)) (cross : List (List RowId)) (s : Setting graph lists cross) where
  next_in : (k l : ℕ) → IsNext cross (owners_from 0 lists) k l → Next cross (owners_from 0 lists) k l
  next_in k l (inl c) = inl (In-from (get_or cross l []) (row k) c)
  next_in k l (inr e) = inr e

  next_out : (k l : ℕ) → Next cross (owners_from 0 lists) k l → IsNext cross (owners_from 0 lists) k l
  next_out k l (inl c) = inl (In-to (get_or cross l []) (row k) c)
  next_out k l (inr e) = inr e

  pub needed_at : (kept : List (List RowId)) → AreSelectedLists (IsNeeded cross (owners_from 0 lists)) (length cross) kept → (a : ℕ) → a < length cross → AreKeptAt cross (owners_from 0 lists) a (get_or kept a [])
  needed_at kept found a h =
      let f = found.1 a h in
      let list = get_or kept a [] in (
        λ u. (
          λ i.
              let m = ((f.members (row u)).0 (In-to list (row u) i)).1 in
              (In-from (get_or cross a []) (row u) m.0, λ v x y. m.1 (v, (next_out u v x, next_out v a y))),
          λ k.
              let l = (is_list graph lists cross s).members a (row u) k.0 in
              In-from list (row u) ((f.members (row u)).1 (l, (In-to (get_or cross a []) (row u) k.0, λ b. k.1 b.0 (next_in u b.0 b.1.0) (next_in b.0 a b.1.1)))),
        ),
        climbing_from 0 list (λ d h. omega arith) f.ascending,
      )

-- the same in the words of the calls
pub searched_setting : (graph : List (List RowId)) (lists now : List (List RowTask)) (owners : List ℕ) (rows : List (List RowId)) (many : ℕ) (cross : List (List RowId)) → now ≡ lists → owners ≡ owners_from 0 now → rows ≡ rows_from now → many ≡ length rows → IsGraph graph → ArePlaced (length graph) lists → AreSelectedLists (Crosses graph owners rows) many cross → Setting graph lists cross
searched_setting graph lists now owners rows many cross en eo er em is placed found =
    let eo' : owners ≡ owners_from 0 lists = eo ∙ ap (owners_from 0) en in
    let er' : rows ≡ rows_from lists = er ∙ ap rows_from en in
    let em' : many ≡ length (rows_from lists) = em ∙ ap (λ (rs : List (List RowId)). length rs) er' in
    let a = subst (λ (o : List ℕ). AreSelectedLists (Crosses graph o rows) many cross) eo' found in
    let b = subst (λ (rs : List (List RowId)). AreSelectedLists (Crosses graph (owners_from 0 lists) rs) many cross) er' a in
    let c = subst (λ (n : ℕ). AreSelectedLists (Crosses graph (owners_from 0 lists) (rows_from lists)) n cross) em' b in
    searched graph lists cross is placed c

pub needed_lists : (cross : List (List RowId)) (owners other : List ℕ) (many : ℕ) (kept : List (List RowId)) → owners ≡ other → many ≡ length cross → AreSelectedLists (IsNeeded cross owners) many kept → AreSelectedLists (IsNeeded cross other) (length cross) kept
needed_lists cross owners other many kept eo em found =
    let a = subst (λ (o : List ℕ). AreSelectedLists (IsNeeded cross o) many kept) eo found in
    subst (λ (n : ℕ). AreSelectedLists (IsNeeded cross other) n kept) em a
