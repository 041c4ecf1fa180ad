-- Rows with pairs and weights have one plan for some workers.
use Rattle.std.proofs.Common.{◌≡◌, ℕ, suc, zero, ◌+◌, ◌-◌, ◌<◌, ◌∙◌, inl, inr, List, [], ◌∷◌, Contains, Some, length, get_or, map, arith, refl, ap, sym, subst}
use Rattle.std.specs.List.{slice_get}
use Rattle.std.proofs.lemmas.Bool.{cases_lt}
use Rattle.std.proofs.lemmas.List.{ext_get_or, get_or_past}
use Rattle.wave_base.specs.declared.types.RowId.{RowId}
use Rattle.row_graph.specs.Rows.{row, row_zero}
use Rattle.row_graph.specs.Predecessors.{ArePredecessors, before}
use Rattle.row_graph.proofs.Members.{In, In-from, In-to}
use Rattle.wave_levels.specs.Levels.{AreLevels, above, level_at}
use Rattle.wave_levels.specs.Chains.{IsLeastChain, at_place}
use Rattle.sched_types.specs.declared.lists.Wait.{Wait}
use Rattle.sched_types.specs.declared.sched.Task.{Task}
use Rattle.sched_types.specs.declared.sched.RowTask.{RowTask}
use Rattle.sched_types.specs.Order.{Spot}
use Rattle.sched_types.specs.Kept.{AreKeptWaits, HasKeptWaits}
use Rattle.super_tasks.specs.Shares.{groups}
use Rattle.wait_sparsify.specs.Depends.{CountsCross}
use Rattle.plan_build.specs.declared.build.Built.{Built}
use Rattle.plan_build.specs.Plan.{IsPlan, Pairs, CountsPairs}
use Rattle.plan_build.proofs.Counted.{same_count}
use Rattle.plan_build.proofs.Sorted.{same_sorted}

-- predecessors
one_graph : (n : ℕ) (pairs : List (RowId × RowId)) (g h : List (List RowId)) → ArePredecessors n pairs g → ArePredecessors n pairs h → g ≡ h
one_graph n pairs g h a b =
    ext_get_or [] g h (a.each_row ∙ sym b.each_row) (λ j l.
    same_sorted (λ (r : RowId). r.0) (get_or g j []) (get_or h j []) (a.ascending j) (b.ascending j)
    (λ i m. In-from (get_or h j []) i ((b.pairs_alone i (row j)).1 ((a.pairs_alone i (row j)).0 (In-to (get_or g j []) i m))))
    (λ i m. In-from (get_or g j []) i ((a.pairs_alone i (row j)).1 ((b.pairs_alone i (row j)).0 (In-to (get_or h j []) i m)))))

-- levels
map_same : (f g : RowId → ℕ) (rows : List RowId) → ((r : RowId) → In r rows → f r ≡ g r) → map f rows ≡ map g rows
map_same f g [] h = refl
map_same f g (r ∷ rows) h =
    let e = h r (inl refl) in
    let rest = map_same f g rows (λ s i. h s (inr i)) in
    λ k. e k ∷ rest k

in_above : (f : RowId → ℕ) (rows : List RowId) (r : RowId) → In r rows → f r < above (map f rows)
in_above f [] r h = absurd h
in_above f (s ∷ rows) r (inl e) = let q : f s ≡ f r = ap f e in omega (arith, q)
in_above f (s ∷ rows) r (inr h) = let m = in_above f rows r h in omega (arith, m)

level_same : (graph : List (List RowId)) (l m : List ℕ) → AreLevels graph l → AreLevels graph m → (fuel j : ℕ) → get_or l j 0 < fuel → get_or l j 0 ≡ get_or m j 0
level_same graph l m a b zero j h = absurd (omega (arith, h))
level_same graph l m a b (suc fuel) j h =
    elim (cases_lt j (length graph)) as (λ _. get_or l j 0 ≡ get_or m j 0) [
      | inl lt ↦
          let rows = before graph j in
          let e = a.1 j lt in
          let same = map_same (level_at l) (level_at m) rows (λ r i.
          (let low = in_above (level_at l) rows r i in
          level_same graph l m a b fuel r.0 (omega (arith, h, e, low)))) in
          e ∙ ap above same ∙ sym (b.1 j lt)
      | inr ge ↦
          get_or_past l j 0 (omega (arith, ge, a.0)) ∙ sym (get_or_past m j 0 (omega (arith, ge, b.0)))
    ]

one_list_of_levels : (graph : List (List RowId)) (l m : List ℕ) → AreLevels graph l → AreLevels graph m → l ≡ m
one_list_of_levels graph l m a b =
    ext_get_or 0 l m (a.0 ∙ sym b.0) (λ j _. level_same graph l m a b (suc (get_or l j 0)) j (omega arith))

-- the chain, from its end
module _ (graph : List (List RowId)) (levels : List ℕ) (xs ys : List RowId) (a : IsLeastChain graph levels xs) (b : IsLeastChain graph levels ys) where
  long : length xs ≡ length ys
  long = a.full ∙ sym b.full

  ends_same : 0 < length xs → at_place xs (length xs - 1) ≡ at_place ys (length ys - 1)
  ends_same some =
      let some' : 0 < length ys = omega (arith, some, long) in
      let up = a.last_least (at_place ys (length ys - 1)) (b.last_row some') (b.last_level some') in
      let down = b.last_least (at_place xs (length xs - 1)) (a.last_row some) (a.last_level some) in
      let e : (at_place xs (length xs - 1)).0 ≡ (at_place ys (length ys - 1)).0 = omega (arith, up, down) in
      λ k. row (e k)

  place_same : (rest j : ℕ) → j + rest + 1 ≡ length xs → at_place xs j ≡ at_place ys j
  place_same zero j e =
      let x : j ≡ length xs - 1 = omega (arith, e) in
      let y : length ys - 1 ≡ j = omega (arith, e, long) in
      ap (at_place xs) x ∙ ends_same (omega (arith, e)) ∙ ap (at_place ys) y
  place_same (suc rest) j e =
      let next = place_same rest (j + 1) (omega (arith, e)) in
      let l : j + 1 < length xs = omega (arith, e) in
      let m : j + 1 < length ys = omega (arith, e, long) in
      let low_y : level_at levels (at_place ys j) + 1 ≡ level_at levels (at_place xs (j + 1)) = b.lower j m ∙ ap (level_at levels) (sym next) in
      let low_x : level_at levels (at_place xs j) + 1 ≡ level_at levels (at_place ys (j + 1)) = a.lower j l ∙ ap (level_at levels) next in
      let link_y = subst (λ (r : RowId). Contains (before graph r.0) (at_place ys j)) (sym next) (b.linked j m) in
      let link_x = subst (λ (r : RowId). Contains (before graph r.0) (at_place xs j)) next (a.linked j l) in
      let up = a.least j (at_place ys j) l link_y low_y in
      let down = b.least j (at_place xs j) m link_x low_x in
      let q : (at_place xs j).0 ≡ (at_place ys j).0 = omega (arith, up, down) in
      λ k. row (q k)

  one_chain : xs ≡ ys
  one_chain = ext_get_or row_zero xs ys long (λ j l. place_same (length xs - 1 - j) j (omega (arith, l)))

-- counts
one_count : (pairs : List (RowId × RowId)) (c d : ℕ) → CountsPairs pairs c → CountsPairs pairs d → c ≡ d
one_count pairs c d a b =
    let e = same_count a.list b.list a.distinct b.distinct
    (λ x m. In-from b.list x ((b.same x.0 x.1).1 ((a.same x.0 x.1).0 (In-to a.list x m))))
    (λ x m. In-from a.list x ((a.same x.0 x.1).1 ((b.same x.0 x.1).0 (In-to b.list x m)))) in
    sym a.long ∙ e ∙ b.long

one_cross : (Dep : RowId → RowId → Type 0) (tasks : List (List RowTask)) (c d : ℕ) → CountsCross Dep tasks c → CountsCross Dep tasks d → c ≡ d
one_cross Dep tasks c d a b =
    let e = same_count a.pairs b.pairs a.distinct b.distinct
    (λ x m. In-from b.pairs x ((b.cross_alone x.0 x.1).1 ((a.cross_alone x.0 x.1).0 (In-to a.pairs x m))))
    (λ x m. In-from a.pairs x ((a.cross_alone x.0 x.1).1 ((b.cross_alone x.0 x.1).0 (In-to b.pairs x m)))) in
    sym a.long ∙ e ∙ b.long

-- the schedule
abbrev bare : Task → RowTask
bare t = record { level = t.level; rows = t.rows }

abbrev bares : List Task → List RowTask
bares ts = map bare ts

one_list_of_waits : (Dep : RowId → RowId → Type 0) (tasks : List (List RowTask)) (spot : Spot) (xs ys : List Wait) → AreKeptWaits Dep tasks spot xs → AreKeptWaits Dep tasks spot ys → xs ≡ ys
one_list_of_waits Dep tasks spot xs ys a b =
    same_sorted (λ (w : Wait). w.worker) xs ys a.ascending b.ascending (into xs ys a b) (into ys xs b a)
  where
    into : (xs ys : List Wait) → AreKeptWaits Dep tasks spot xs → AreKeptWaits Dep tasks spot ys → (w : Wait) → In w xs → In w ys
    into xs ys a b w m =
        let c = In-to xs w m in
        let s = a.some_task w c in
        let n : w.count ≡ w.count - 1 + 1 = omega (arith, s) in
        let e : w ≡ record { worker = w.worker; count = w.count - 1 + 1 } = λ x. record { worker = w.worker; count = n x } in
        let first : Spot = record { worker = w.worker; at = w.count - 1 } in
        let k = (a.kept_alone first).0 (subst (λ (w : Wait). Contains xs w) e c) in
        In-from ys w (subst (λ (w : Wait). Contains ys w) (sym e) ((b.kept_alone first).1 k))

abbrev tail : {X : Type 0} → List X → List X
tail [] = []
tail (x ∷ xs) = xs

one_list_of_tasks : (ts us : List Task) → map bare ts ≡ map bare us → ((at : ℕ) (t u : Task) → slice_get ts at ≡ Some t → slice_get us at ≡ Some u → t.waits ≡ u.waits) → ts ≡ us
one_list_of_tasks [] [] e h = refl
one_list_of_tasks [] (u ∷ us) e h = let n : 0 ≡ suc (length (map bare us)) = ap (λ (xs : List RowTask). length xs) e in absurd (omega (arith, n))
one_list_of_tasks (t ∷ ts) [] e h = let n : suc (length (map bare ts)) ≡ 0 = ap (λ (xs : List RowTask). length xs) e in absurd (omega (arith, n))
one_list_of_tasks (t ∷ ts) (u ∷ us) e h =
    let first : bare t ≡ bare u = ap (λ (xs : List RowTask). get_or xs zero (bare t)) e in
    let more : map bare ts ≡ map bare us = ap (λ (xs : List RowTask). tail xs) e in
    let waits = h zero t u refl refl in
    let same : t ≡ u = λ k. record { level = (first k).level; rows = (first k).rows; waits = waits k } in
    let rest = one_list_of_tasks ts us more (λ at x y p q. h (suc at) x y p q) in
    λ k. same k ∷ rest k

one_list_of_lists : (ws vs : List (List Task)) → map bares ws ≡ map bares vs → ((w at : ℕ) (t u : Task) → slice_get (get_or ws w []) at ≡ Some t → slice_get (get_or vs w []) at ≡ Some u → t.waits ≡ u.waits) → ws ≡ vs
one_list_of_lists [] [] e h = refl
one_list_of_lists [] (v ∷ vs) e h = let n : 0 ≡ suc (length (map bares vs)) = ap (λ (xs : List (List RowTask)). length xs) e in absurd (omega (arith, n))
one_list_of_lists (w ∷ ws) [] e h = let n : suc (length (map bares ws)) ≡ 0 = ap (λ (xs : List (List RowTask)). length xs) e in absurd (omega (arith, n))
one_list_of_lists (w ∷ ws) (v ∷ vs) e h =
    let first : map bare w ≡ map bare v = ap (λ (xs : List (List RowTask)). get_or xs zero []) e in
    let more : map bares ws ≡ map bares vs = ap (λ (xs : List (List RowTask)). tail xs) e in
    let same = one_list_of_tasks w v first (λ at x y p q. h zero at x y p q) in
    let rest = one_list_of_lists ws vs more (λ k at x y p q. h (suc k) at x y p q) in
    λ k. same k ∷ rest k

one_schedule : (Dep : RowId → RowId → Type 0) (tasks : List (List RowTask)) (ws vs : List (List Task)) → HasKeptWaits Dep tasks ws → HasKeptWaits Dep tasks vs → ws ≡ vs
one_schedule Dep tasks ws vs a b =
    one_list_of_lists ws vs (a.same_tasks ∙ sym b.same_tasks) (λ w at t u p q.
    (let spot : Spot = record { worker = w; at = at } in
    one_list_of_waits Dep tasks spot t.waits u.waits (a.waits spot t p) (b.waits spot u q)))

pub one_plan : (n : ℕ) (pairs : List (RowId × RowId)) (weights : List ℕ) (workers : ℕ) (a b : Built) → IsPlan n pairs weights workers a → IsPlan n pairs weights workers b → a ≡ b
one_plan n pairs weights workers a b p q =
    let g = one_graph n pairs p.graph q.graph p.predecessors q.predecessors in
    let l = one_list_of_levels p.graph p.row_levels q.row_levels p.are_levels (subst (λ (g : List (List RowId)). AreLevels g q.row_levels) (sym g) q.are_levels) in
    let edges = one_count pairs a.edges b.edges p.edges q.edges in
    let levels : a.levels ≡ b.levels = p.levels ∙ ap above l ∙ sym q.levels in
    let ending = subst (λ (m : List ℕ). IsLeastChain p.graph m b.chain) (sym l) (subst (λ (g : List (List RowId)). IsLeastChain g q.row_levels b.chain) (sym g) q.chain) in
    let chain = one_chain p.graph p.row_levels a.chain b.chain p.chain ending in
    let tasks = groups p.row_levels weights workers in
    let waits = subst (λ (m : List ℕ). HasKeptWaits (Pairs pairs) (groups m weights workers) b.sched.workers) (sym l) q.waits in
    let sched = one_schedule (Pairs pairs) tasks a.sched.workers b.sched.workers p.waits waits in
    let counts = subst (λ (m : List ℕ). CountsCross (Pairs pairs) (groups m weights workers) b.cross) (sym l) q.cross in
    let cross = one_cross (Pairs pairs) tasks a.cross b.cross p.cross counts in
    λ k. record { edges = edges k; levels = levels k; chain = chain k; sched = record { workers = sched k }; cross = cross k }
