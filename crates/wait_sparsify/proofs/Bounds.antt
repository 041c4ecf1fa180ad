-- Numbers stay within the lists that they name.
use Rattle.std.proofs.Common.{◌≡◌, ℕ, ◌+◌, ◌<◌, ◌∙◌, List, [], All, length, get_or, replicate, arith, ap, sym, subst}
use Rattle.std.proofs.lemmas.List.{get_or_default, length-replicate}
use Rattle.std.proofs.lemmas.List.Elements.{All-contains, Contains-get_or}
use Rattle.wave_base.specs.declared.types.RowId.{RowId}
use Rattle.row_graph.specs.Rows.{row}
use Rattle.row_graph.specs.Predecessors.{before, IsGraph}
use Rattle.row_graph.proofs.Members.{In, In-from, In-to}
use Rattle.sched_types.specs.declared.sched.RowTask.{RowTask}
use Rattle.sched_types.specs.declared.sched.Task.{Task}
use Rattle.sched_types.specs.Kept.{AreKeptWaits, HasKeptWaits}
use Rattle.wait_sparsify.specs.Depends.{Depends, ArePlaced}
use Rattle.wait_sparsify.specs.Attached.{waits_for, attached}
use Rattle.wait_sparsify.specs.Numbered.{owners_from, places_from, rows_from}
use Rattle.wait_sparsify.specs.Survivors.{nexts, kept_lists}
use Rattle.wait_sparsify.specs.Written.{written_lists}
use Rattle.wait_sparsify.specs.Crossing.{crossing_lists}
use Rattle.wait_sparsify.proofs.Attaching.{attached-at, same_tasks}
use Rattle.wait_sparsify.proofs.Numbering.{length-owners, number_below}
use Rattle.wait_sparsify.proofs.TaskOf.{length-written_lists}
use Rattle.wait_sparsify.proofs.Places.{num, has-from, listed, row_below, row_stands, task_is}
use Rattle.wait_sparsify.proofs.Crossings.{In-lists}
use Rattle.wait_sparsify.proofs.Keeping.{AreKeptAt, stamped_none, kept_lists-at, length-kept_lists}
use Rattle.wait_sparsify.proofs.Transport.{Setting, is_list, are_kept}

all_lists : (P : RowId → Type 0) (lists : List (List RowId)) → ((a : ℕ) (r : RowId) → In r (get_or lists a []) → P r) → All (λ (list : List RowId). All P list) lists
all_lists P lists h k d l j e m =
    let q = get_or_default lists k d [] l in
    let i : In (get_or (get_or lists k d) j e) (get_or lists k d) = In-from (get_or lists k d) (get_or (get_or lists k d) j e) (Contains-get_or (get_or lists k d) j e m) in
    h k (get_or (get_or lists k d) j e) (subst (λ (rows : List RowId). In (get_or (get_or lists k d) j e) rows) q i)

module _ (graph : List (List RowId)) (lists : List (List RowTask)) (graph_is : IsGraph graph) (placed : ArePlaced (length graph) lists) where
  abbrev tasks : List ℕ
  tasks = written_lists 0 (rows_from lists) (replicate (length graph) 0)

  abbrev pairs : List (RowId × RowId)
  pairs = crossing_lists graph (owners_from 0 lists) (written_lists 0 (rows_from lists) (replicate (length graph) 0)) 0 (rows_from lists)

  pub rows_within : All (λ (list : List RowId). All (λ (r : RowId). r.0 < length graph) list) (rows_from lists)
  rows_within = all_lists (λ (r : RowId). r.0 < length graph) (rows_from lists) (row_below (length graph) lists placed)

  task_below : (r : RowId) → r.0 < length graph → get_or tasks r.0 0 < length (rows_from lists)
  task_below r h =
      let a = row_stands (length graph) lists placed r h in
      let t = task_is (length graph) lists placed a.0 r a.1 in
      omega (arith, t, listed (rows_from lists) a.0 r a.1)

  pub tasks_within : All (λ (t : ℕ). t < length (rows_from lists)) (written_lists 0 (rows_from lists) (replicate (length graph) 0))
  tasks_within k d h =
      let l : k < length graph = omega (arith, h, length-written_lists 0 (rows_from lists) (replicate (length graph) 0), length-replicate {A = ℕ} (length graph) 0) in
      omega (arith, get_or_default tasks k d 0 h, task_below (row k) l)

  pub pairs_first : All (λ (p : RowId × RowId). p.0.0 < length (rows_from lists)) (crossing_lists graph (owners_from 0 lists) (written_lists 0 (rows_from lists) (replicate (length graph) 0)) 0 (rows_from lists))
  pairs_first k d h =
      let p = get_or pairs k d in
      let m = In-lists graph (owners_from 0 lists) tasks 0 (rows_from lists) p (In-from pairs p (Contains-get_or pairs k d h)) in
      let below = row_below (length graph) lists placed m.list m.j m.j_in in
      let lesser : m.i.0 < m.j.0 = All-contains (λ (i : RowId). i.0 < m.j.0) (before graph m.j.0) m.i (graph_is.1 m.j.0) (In-to (before graph m.j.0) m.i m.i_in) in
      let e : p.0.0 ≡ get_or tasks m.i.0 0 = ap (λ (q : RowId × RowId). q.0.0) m.pair.0 in
      omega (arith, e, task_below m.i (omega (arith, below, lesser)))

  pub pairs_second : All (λ (p : RowId × RowId). p.1.0 < length (rows_from lists)) (crossing_lists graph (owners_from 0 lists) (written_lists 0 (rows_from lists) (replicate (length graph) 0)) 0 (rows_from lists))
  pairs_second k d h =
      let p = get_or pairs k d in
      let m = In-lists graph (owners_from 0 lists) tasks 0 (rows_from lists) p (In-from pairs p (Contains-get_or pairs k d h)) in
      let e : p.1.0 ≡ 0 + m.list = ap (λ (q : RowId × RowId). q.1.0) m.pair.0 in
      omega (arith, e, listed (rows_from lists) m.list m.j m.j_in)

module _ (graph : List (List RowId)) (lists : List (List RowTask)) (cross : List (List RowId)) (s : Setting graph lists cross) where
  pub cross_within : All (λ (list : List RowId). All (λ (u : RowId). u.0 < length cross) list) cross
  cross_within = all_lists (λ (u : RowId). u.0 < length cross) cross (λ a u h. (is_list graph lists cross s).members a u h)

  -- what the sweep makes
  module _ (owners : List ℕ) (kept : List (List RowId)) (eo : owners ≡ owners_from 0 lists) (ek : kept ≡ kept_lists (nexts cross) owners 0 (replicate (length cross) 0) (replicate (length cross) 0) cross) where
    swept : kept ≡ kept_lists (nexts cross) (owners_from 0 lists) 0 (replicate (length cross) 0) (replicate (length cross) 0) cross
    swept = ek ∙ ap (λ (o : List ℕ). kept_lists (nexts cross) o 0 (replicate (length cross) 0) (replicate (length cross) 0) cross) eo

    pub swept_long : length kept ≡ length cross
    swept_long = ap length ek ∙ length-kept_lists (nexts cross) owners 0 (replicate (length cross) 0) (replicate (length cross) 0) cross

    pub swept_at : (a : ℕ) → a < length cross → AreKeptAt cross (owners_from 0 lists) a (get_or kept a [])
    swept_at a h =
        let z : 0 + a ≡ a = omega arith in
        let k = kept_lists-at cross (owners_from 0 lists) (is_list graph lists cross s) 0 (replicate (length cross) 0) (replicate (length cross) 0) cross (stamped_none cross (owners_from 0 lists)) (λ b. (let y : b ≡ 0 + b = omega arith in ap (λ k. get_or cross k []) y)) (omega arith) a h in
        let k' = subst (λ (t : ℕ). AreKeptAt cross (owners_from 0 lists) t (get_or (kept_lists (nexts cross) (owners_from 0 lists) 0 (replicate (length cross) 0) (replicate (length cross) 0) cross) a [])) z k in
        subst (λ (ks : List (List RowId)). AreKeptAt cross (owners_from 0 lists) a (get_or ks a [])) (sym swept) k'

  -- what any lists give that have the tasks to wait for
  module _ (kept : List (List RowId)) (long : length kept ≡ length cross) (kept_at : (a : ℕ) → a < length cross → AreKeptAt cross (owners_from 0 lists) a (get_or kept a [])) where
    kept_within : All (λ (list : List RowId). All (λ (u : RowId). u.0 < length (owners_from 0 lists)) list) kept
    kept_within = all_lists (λ (u : RowId). u.0 < length (owners_from 0 lists)) kept (λ a u h.
        let l = listed kept a u h in
        let m : a < length cross = omega (arith, l, long) in
        let k = ((kept_at a m).0 u.0).0 h in
        omega (arith, (is_list graph lists cross s).members a u k.0, s.made.each_row, length-owners 0 lists))

    has_kept : HasKeptWaits (Depends graph) lists (attached (owners_from 0 lists) (places_from lists) kept 0 lists)
    has_kept = record {
      same_tasks = same_tasks (owners_from 0 lists) (places_from lists) kept 0 lists;
      waits = λ place task h.
          let a = attached-at (owners_from 0 lists) (places_from lists) kept 0 lists place.worker place.at task h in
          let hp = has-from lists place a.0 a.1 in
          let z : 0 + num lists place ≡ num lists place = omega arith in
          let l : num lists place < length cross = omega (arith, number_below lists place.worker place.at hp, s.made.each_row) in
          let e : task.waits ≡ waits_for (owners_from 0 lists) (places_from lists) (get_or kept (num lists place) []) = ap (λ (t : Task). t.waits) a.2 ∙ ap (λ (n : ℕ). waits_for (owners_from 0 lists) (places_from lists) (get_or kept n [])) z in
          subst (AreKeptWaits (Depends graph) lists place) (sym e) (are_kept graph lists cross s place hp (get_or kept (num lists place) []) (kept_at (num lists place) l));
    }

    pub kept_inside : (owners : List ℕ) → owners ≡ owners_from 0 lists → All (λ (list : List RowId). All (λ (u : RowId). u.0 < length owners) list) kept
    kept_inside owners eo =
        subst (λ (o : List ℕ). All (λ (list : List RowId). All (λ (u : RowId). u.0 < length o) list) kept) (sym eo) kept_within

    pub has_waits : (owners places : List ℕ) (now : List (List RowTask)) (workers : List (List Task)) → owners ≡ owners_from 0 lists → places ≡ places_from lists → now ≡ lists → workers ≡ attached owners places kept 0 now → HasKeptWaits (Depends graph) lists workers
    has_waits owners places now workers eo ep en ew =
        let q : attached owners places kept 0 now ≡ attached (owners_from 0 lists) (places_from lists) kept 0 lists = λ x. attached (eo x) (ep x) kept 0 (en x) in
        subst (HasKeptWaits (Depends graph) lists) (sym (ew ∙ q)) has_kept

-- what the calls give, in the words of the tasks that were handed in
pub all_pairs : (graph : List (List RowId)) (lists : List (List RowTask)) (owners tasks : List ℕ) (n : ℕ) (rows : List (List RowId)) (made : List (RowId × RowId)) → owners ≡ owners_from 0 lists → tasks ≡ written_lists 0 rows (replicate n 0) → n ≡ length graph → rows ≡ rows_from lists → made ≡ crossing_lists graph owners tasks 0 rows → made ≡ crossing_lists graph (owners_from 0 lists) (written_lists 0 (rows_from lists) (replicate (length graph) 0)) 0 (rows_from lists)
all_pairs graph lists owners tasks n rows made eo et en er ep =
    let t : written_lists 0 rows (replicate n 0) ≡ written_lists 0 (rows_from lists) (replicate (length graph) 0) = λ x. written_lists 0 (er x) (replicate (en x) 0) in
    let et' : tasks ≡ written_lists 0 (rows_from lists) (replicate (length graph) 0) = et ∙ t in
    let q : crossing_lists graph owners tasks 0 rows ≡ crossing_lists graph (owners_from 0 lists) (written_lists 0 (rows_from lists) (replicate (length graph) 0)) 0 (rows_from lists) = λ x. crossing_lists graph (eo x) (et' x) 0 (er x) in
    ep ∙ q
