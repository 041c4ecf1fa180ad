-- Instances that wait at a premise that fails.
use Rattle.std.proofs.Common.{ap, take, replicate, zero, suc, ℕ, ℤ, ◌<◌, ◌≤◌, ◌+◌, ◌≡◌, ◌≢◌, ◌⊎◌, inl, inr, arith, refl, List, [], ◌∷◌, ◌++◌, length, slice_index_or, slice_get, slice_set, subst, sym, ◌∙◌, Some, true, false, get_or-set_other, get_or-set_same}
use Rattle.std.proofs.lemmas.Bool.{cases_eq}
use Rattle.std.specs.List.{Contains}
use Rattle.std.proofs.lemmas.List.{length-set, length-replicate, take_more}
use Rattle.std.proofs.Math.Seq.{take-length}
use Rattle.std.proofs.lemmas.List.Elements.{Contains-push_cases, Contains-push, Contains-append_left}
use Rattle.loop_core.specs.declared.nest.Atom.{Atom}
use Rattle.uf_constraints.specs.declared.system.Diff.{Diff}
use Rattle.index_props.specs.declared.rule.RuleInst.{RuleInst}
use Rattle.std.specs.Int.Signed.{◌<ℤ◌}
use Rattle.bound_table.specs.declared.between.Between.{Between}
use Rattle.bound_table.specs.declared.waiting.Waiting.{Waiting}
use Rattle.bound_table.specs.Queues.{queue, set_queue, put_in, without}
use Rattle.bound_close.specs.declared.workings.Workings.{Workings}
use Rattle.bound_close.specs.declared.engine.Engine.{Engine}
use Rattle.bound_ways.specs.Exact.{bound_of, Holds, Fails, IsLower}
use Rattle.bound_ways.specs.Over.{IsOver, AreRulesOver}
use Rattle.bound_plain.specs.Plain.{IsFired, unfired}
use Rattle.bound_close.specs.Passes.{Forward, IsWatched, Watches, ResultsHold, AllSettled}
use Rattle.bound_close.specs.Waits.{marks, edges, Holding, IsWaiting, AreQueues, Tended, IsLater, Looks, Stands, Covered, AllCovered, Steady, Onwards, Looked, IsCovered, IsTending}
use Rattle.bound_close.specs.Workings.{bounds, IsFine, Moves}
use Rattle.bound_ways.specs.Places.{place_in}
use Rattle.bound_ways.proofs.Bounding.{a_in, b_in, over-item, Holds-lower, got, got-is, contains-got, over-take, Holds-none}
use Rattle.bound_plain.proofs.Visits.{fewer_set}
use Rattle.bound_close.proofs.Takes.{forward-same, forward-trans}

pub results-lower : (u : List Atom) (rules : List RuleInst) (mid new : Workings) (k : ℕ) → AreRulesOver u rules → IsLower (length u) (bounds mid) (bounds new) → ResultsHold u rules mid k → ResultsHold u rules new k
results-lower u rules mid new k over l h r g = Holds-lower u (bounds mid) (bounds new) r.results l (over r (contains-got rules k r g)).results (h r g)

pub holding-lower : (u : List Atom) (rules : List RuleInst) (mid new : Workings) (k held : ℕ) → AreRulesOver u rules → IsLower (length u) (bounds mid) (bounds new) → Holding u rules mid k held → Holding u rules new k held
holding-lower u rules mid new k held over l w = record {
  within = w.within;
  held = λ r g. let h = w.held r g in (h.0, Holds-lower u (bounds mid) (bounds new) (take held r.premises) l (over-take u r.premises held (over r (contains-got rules k r g)).premises) h.1);
}

pub waiting-lower : (u : List Atom) (rules : List RuleInst) (mid new : Workings) (e : Waiting) → AreRulesOver u rules → IsLower (length u) (bounds mid) (bounds new) → IsWaiting u rules mid e → IsWaiting u rules new e
waiting-lower u rules mid new e over l w = record {
  holding = holding-lower u rules mid new e.rule e.held over l w.holding;
  x = w.x;
  y = w.y;
  watched = w.watched;
}

pub holding-none : (u : List Atom) (rules : List RuleInst) (w : Workings) (k : ℕ) → k < length rules → Holding u rules w k 0
holding-none u rules w k l = record { within = l; held = λ r g. (omega arith, Holds-none u (bounds w) r.premises) }

-- the premise at a place is watched
pub watches : (u : List Atom) (rules : List RuleInst) (k i : ℕ) (rr : RuleInst) (d : Diff) (p : Between) → rr ≡ slice_index_or rules k rr → i < length rr.premises → d ≡ slice_index_or rr.premises i d → p.x ≡ place_in u d.a → p.y ≡ place_in u d.b → p.bound ≡ d.c → Watches u rules k p
watches u rules k i rr d p is lt at ex ey ec = record {
  fails = λ T h r g.
      let same : rr ≡ r = got-is rules k rr r is g in
      let low : d.c <ℤ bound_of u T d = rw (ex, ey, ec) at h in
      subst (λ (r : RuleInst). Fails u T r.premises) same (d, (i, lt, sym at), low);
}

-- the same of a premise whose places are known
pub watches-at : (u : List Atom) (rules : List RuleInst) (k i : ℕ) (rr : RuleInst) (p : Between) → rr ≡ slice_index_or rules k rr → i < length rr.premises → IsWatched u rr.premises i p → Watches u rules k p
watches-at u rules k i rr p is lt w = watches u rules k i rr w.watched p is lt w.at w.x w.y w.bound

-- the bound between its places is above its right side
pub low-at : (u : List Atom) (T : ℕ → ℕ → ℤ) (ds : List Diff) (i : ℕ) (p : Between) → i < length ds → ((d : Diff) → slice_get ds i ≡ Some d → d.c <ℤ bound_of u T d) → IsWatched u ds i p → p.bound <ℤ T p.x p.y
low-at u T ds i p lt h w = rw (w.x, w.y, w.bound) (h w.watched (got ds i w.watched lt w.at))

-- an instance that waits at a premise
pub waits-open : (u : List Atom) (rules : List RuleInst) (w : Workings) (k : ℕ) (rr : RuleInst) (ps : List Diff) (n i : ℕ) (p : Between) → AreRulesOver u rules → k < length rules → rr ≡ slice_index_or rules k rr → ps ≡ rr.premises → n < length ps → Holds u (bounds w) (take n ps) → i < length ps → IsWatched u ps i p → IsWaiting u rules w record { rule = k; held = n; seen = p }
waits-open u rules w k rr ps n i p over lt is same few held l seen =
    let at = got rules k rr lt is in
    let o = (over rr (contains-got rules k rr at)).premises in
    let below : i < length rr.premises = subst (λ (l : List Diff). i < length l) same l in
    let watched : IsWatched u rr.premises i p = subst (λ (l : List Diff). IsWatched u l i p) same seen in
    let there : IsOver u watched.watched = over-item u rr.premises i watched.watched o below watched.at in
    record {
      holding = record {
        within = lt;
        held = λ r g.
            let one : rr ≡ r = got-is rules k rr r is g in
            let all : ps ≡ r.premises = same ∙ ap (λ (r : RuleInst). r.premises) one in
            (subst (λ (l : List Diff). n ≤ length l) all (omega arith), subst (λ (l : List Diff). Holds u (bounds w) (take n l)) all held);
      };
      x = subst (λ (v : ℕ). v < length u) (sym watched.x) (a_in u watched.watched there);
      y = subst (λ (v : ℕ). v < length u) (sym watched.y) (b_in u watched.watched there);
      watched = watches-at u rules k i rr p is below watched;
    }

-- Queues.

module _ (rows : List (List (List Waiting))) (x y : ℕ) (q : List Waiting) (lx : x < length rows) where
  pub set-there : y < length (slice_index_or rows x []) → queue (set_queue rows x y q) x y ≡ q
  set-there ly =
      let row : slice_index_or (set_queue rows x y q) x [] ≡ slice_set (slice_index_or rows x []) y q = rw get_or-set_same refl in
      rw row (rw get_or-set_same refl)

  pub set-other : (v w : ℕ) → (v ≢ x) ⊎ (w ≢ y) → queue (set_queue rows x y q) v w ≡ queue rows v w
  set-other v w d = elim (cases_eq v x) [
    | inl e ↦ elim d [
      | inl n ↦ absurd (n e)
      | inr n ↦
          let row : slice_index_or (set_queue rows x y q) x [] ≡ slice_set (slice_index_or rows x []) y q = rw get_or-set_same refl in
          rw e (rw row (rw get_or-set_other refl))
    ]
    | inr n ↦ (let row : slice_index_or (set_queue rows x y q) v [] ≡ slice_index_or rows v [] = rw get_or-set_other refl in rw row refl)
  ]

  pub queues-set : (n : ℕ) → AreQueues n rows → AreQueues n (set_queue rows x y q)
  queues-set n h = record {
    long = length-set rows x (slice_set (slice_index_or rows x []) y q) ∙ h.long;
    wide = λ k l. elim (cases_eq k x) [
      | inl e ↦ (let row : slice_index_or (set_queue rows x y q) x [] ≡ slice_set (slice_index_or rows x []) y q = rw get_or-set_same refl in
          rw e (ap length row ∙ length-set (slice_index_or rows x []) y q ∙ h.wide x (subst (λ (m : ℕ). m < n) e l)))
      | inr ne ↦ (let row : slice_index_or (set_queue rows x y q) k [] ≡ slice_index_or rows k [] = rw get_or-set_other refl in ap length row ∙ h.wide k l)
    ];
  }

pub same-pair : (v w x y : ℕ) → ((v ≡ x) × (w ≡ y)) ⊎ ((v ≢ x) ⊎ (w ≢ y))
same-pair v w x y = elim (cases_eq v x) [
  | inl e ↦ elim (cases_eq w y) [
    | inl f ↦ inl (e, f)
    | inr n ↦ inr (inr n)
  ]
  | inr n ↦ inr (inl n)
]

-- Bounds that are lowered.

pub looks-moves : (m : ℕ) (old new : Workings) (s t cx cy : ℕ) (e : Waiting) → Moves m old new → e.seen.x < m → e.seen.y < m → t ≤ length old.table.edges.items → Looks old s t cx cy e → Looks new s t cx cy e
looks-moves m old new s t cx cy e v lx ly le h = elim (v.each e.seen.x e.seen.y lx ly) [
  | inl k ↦ elim h [
    | inl a ↦ inl (subst (λ (z : ℤ). e.seen.bound <ℤ z) (sym k.0) a)
    | inr b ↦ elim b [
      | inl c ↦ inr (inl (let f = k.1 in omega arith))
      | inr c ↦ inr (inr (let f = k.1 in let g = c.0 in omega arith, c.1))
    ]
  ]
  | inr k ↦ inr (inl (omega arith))
]

-- What is covered.

module _ (u : List Atom) (rules : List RuleInst) where
  pub steady-same : (g : Engine) → Tended u rules g → Steady u rules g g
  steady-same g h = record {
    forward = forward-same u rules g.workings h.fine;
    tended = h;
    longer = omega arith;
    fewer = omega arith;
    same = λ e. refl;
  }

  pub steady-trans : (old mid new : Engine) → Steady u rules old mid → Steady u rules mid new → Steady u rules old new
  steady-trans old mid new f g = record {
    forward = forward-trans u rules old.workings mid.workings new.workings f.forward g.forward;
    tended = g.tended;
    longer = (let a = f.longer in let b = g.longer in omega arith);
    fewer = (let a = f.fewer in let b = g.fewer in omega arith);
    same = λ e. (let a = f.fewer in let b = g.fewer in g.same (omega arith) ∙ f.same (omega arith));
  }

  pub onwards-same : (g : Engine) → Tended u rules g → Onwards u rules g g
  onwards-same g h = record { steady = steady-same g h; covers = λ s t cx cy k l c. c }

  pub onwards-trans : (old mid new : Engine) → Onwards u rules old mid → Onwards u rules mid new → Onwards u rules old new
  onwards-trans old mid new f g = record {
    steady = steady-trans old mid new f.steady g.steady;
    covers = λ s t cx cy k l c. (let a = f.steady.longer in g.covers s t cx cy k (omega arith) (f.covers s t cx cy k l c));
  }

  pub looked-same : (s cx cy : ℕ) (g : Engine) → Tended u rules g → Looked u rules s cx cy cx cy g g
  looked-same s cx cy g h = record { steady = steady-same g h; covers = λ t k l c. c }

  pub looked-trans : (s ax ay bx by cx cy : ℕ) (old mid new : Engine) → Looked u rules s ax ay bx by old mid → Looked u rules s bx by cx cy mid new → Looked u rules s ax ay cx cy old new
  looked-trans s ax ay bx by cx cy old mid new f g = record {
    steady = steady-trans old mid new f.steady g.steady;
    covers = λ t k l c. (let a = f.steady.longer in g.covers t k (omega arith) (f.covers t k l c));
  }

  pub fired-covered : (g : Engine) (k : ℕ) → IsFired g.fired.items k → IsCovered u g k
  fired-covered g k h s t cx cy = inl h

  -- an instance goes into a queue
  module _ (old new : Engine) (e : Waiting) (h : Tended u rules old) (w : IsWaiting u rules old.workings e) (low : e.seen.bound <ℤ bounds old.workings e.seen.x e.seen.y) (sw : new.workings ≡ old.workings) (sf : new.fired ≡ old.fired) (sq : new.queues.rows.items ≡ put_in old.queues.rows.items e.seen.x e.seen.y e) where
    in_x : e.seen.x < length old.queues.rows.items
    in_x = let l = h.queues.long in let x = w.x in omega arith

    in_y : e.seen.y < length (slice_index_or old.queues.rows.items e.seen.x [])
    in_y = let l = h.queues.wide e.seen.x w.x in let y = w.y in omega arith

    put_there : queue new.queues.rows.items e.seen.x e.seen.y ≡ queue old.queues.rows.items e.seen.x e.seen.y ++ e ∷ []
    put_there = rw sq (set-there old.queues.rows.items e.seen.x e.seen.y (queue old.queues.rows.items e.seen.x e.seen.y ++ e ∷ []) in_x in_y)

    put_other : (x y : ℕ) → (x ≢ e.seen.x) ⊎ (y ≢ e.seen.y) → queue new.queues.rows.items x y ≡ queue old.queues.rows.items x y
    put_other x y d = rw sq (set-other old.queues.rows.items e.seen.x e.seen.y (queue old.queues.rows.items e.seen.x e.seen.y ++ e ∷ []) in_x x y d)

    kept : (x y : ℕ) (f : Waiting) → Contains (queue old.queues.rows.items x y) f → Contains (queue new.queues.rows.items x y) f
    kept x y f c = elim (same-pair x y e.seen.x e.seen.y) [
      | inl p ↦ subst (λ (l : List Waiting). Contains l f) (sym (ap (λ (v : ℕ). queue new.queues.rows.items v y) p.0 ∙ ap (queue new.queues.rows.items e.seen.x) p.1 ∙ put_there)) (Contains-append_left (queue old.queues.rows.items e.seen.x e.seen.y) (e ∷ []) f (subst (λ (l : List Waiting). Contains l f) (ap (λ (v : ℕ). queue old.queues.rows.items v y) p.0 ∙ ap (queue old.queues.rows.items e.seen.x) p.1) c))
      | inr n ↦ subst (λ (l : List Waiting). Contains l f) (sym (put_other x y n)) c
    ]

    only : (x y : ℕ) (f : Waiting) → Contains (queue new.queues.rows.items x y) f → Contains (queue old.queues.rows.items x y) f ⊎ (e ≡ f)
    only x y f c = elim (same-pair x y e.seen.x e.seen.y) [
      | inl p ↦ elim (Contains-push_cases (queue old.queues.rows.items e.seen.x e.seen.y) e f (subst (λ (l : List Waiting). Contains l f) (ap (λ (v : ℕ). queue new.queues.rows.items v y) p.0 ∙ ap (queue new.queues.rows.items e.seen.x) p.1 ∙ put_there) c)) [
        | inl a ↦ inl (subst (λ (l : List Waiting). Contains l f) (sym (ap (λ (v : ℕ). queue old.queues.rows.items v y) p.0 ∙ ap (queue old.queues.rows.items e.seen.x) p.1)) a)
        | inr b ↦ inr b
      ]
      | inr n ↦ inl (subst (λ (l : List Waiting). Contains l f) (put_other x y n) c)
    ]

    put_tended : Tended u rules new
    put_tended = record {
      fine = rw sw h.fine;
      many = rw sf h.many;
      queues = rw sq (queues-set old.queues.rows.items e.seen.x e.seen.y (queue old.queues.rows.items e.seen.x e.seen.y ++ e ∷ []) in_x (length u) h.queues);
      done = λ k g. rw sw (h.done k (rw sf at g));
      waiting = λ x y f c. elim (only x y f c) [
        | inl a ↦ rw sw (h.waiting x y f a)
        | inr b ↦ rw sw (subst (λ (f : Waiting). IsWaiting u rules old.workings f) b w)
      ];
    }

    pub put-onwards : Onwards u rules old new
    put-onwards = record {
      steady = record {
        forward = rw sw (forward-same u rules old.workings h.fine);
        tended = put_tended;
        longer = rw sw (omega arith);
        fewer = rw sf (omega arith);
        same = λ e. rw sw refl;
      };
      covers = λ s t cx cy k l c. elim c [
        | inl a ↦ inl (rw sf a)
        | inr b ↦ inr (b.0, record { rule = b.1.rule; x = b.1.x; y = b.1.y; there = kept b.0.seen.x b.0.seen.y b.0 b.1.there }, rw sw b.2)
      ];
    }

    pub put-covered : IsCovered u new e.rule
    put-covered s t cx cy = inr (e, record { rule = refl; x = w.x; y = w.y; there = rw put_there (Contains-push (queue old.queues.rows.items e.seen.x e.seen.y) e) }, inl (rw sw low))

  -- an instance fires
  module _ (over : AreRulesOver u rules) (old new : Engine) (i : ℕ) (h : Tended u rules old) (lt : i < length rules) (first : slice_index_or old.fired.items i false ≡ false) (f : Forward u rules old.workings new.workings) (r : ResultsHold u rules new.workings i) (sf : new.fired.items ≡ slice_set old.fired.items i true) (sq : new.queues ≡ old.queues) where
    in_i : i < length old.fired.items
    in_i = let m = h.many in omega arith

    pub fired-now : IsFired new.fired.items i
    fired-now = let l = in_i in rw sf (rw get_or-set_same refl)

    fired_before : (k : ℕ) → IsFired new.fired.items k → (k ≡ i) ⊎ IsFired old.fired.items k
    fired_before k g = elim (cases_eq k i) [
      | inl e ↦ inl e
      | inr n ↦ inr (let other : slice_index_or (slice_set old.fired.items i true) k false ≡ slice_index_or old.fired.items k false = rw get_or-set_other refl in sym other ∙ (rw sf at g))
    ]

    fired_still : (k : ℕ) → IsFired old.fired.items k → IsFired new.fired.items k
    fired_still k g = elim (cases_eq k i) [
      | inl e ↦ subst (λ (k : ℕ). IsFired new.fired.items k) (sym e) fired-now
      | inr n ↦ rw sf (rw get_or-set_other g)
    ]

    lower : IsLower (length u) (bounds old.workings) (bounds new.workings)
    lower = (f.onward []).lower

    fire_tended : Tended u rules new
    fire_tended = record {
      fine = f.fine;
      many = rw sf (length-set old.fired.items i true ∙ h.many);
      queues = rw sq h.queues;
      done = λ k g. elim (fired_before k g) [
        | inl e ↦ subst (λ (k : ℕ). ResultsHold u rules new.workings k) (sym e) r
        | inr a ↦ results-lower u rules old.workings new.workings k over lower (h.done k a)
      ];
      waiting = λ x y e c. waiting-lower u rules old.workings new.workings e over lower (h.waiting x y e (rw sq at c));
    }

    pub fire-onwards : Onwards u rules old new
    fire-onwards =
        let less : unfired new.fired.items < unfired old.fired.items = rw sf (fewer_set old.fired.items i in_i first) in
        record {
          steady = record {
            forward = f;
            tended = fire_tended;
            longer = f.moves.longer;
            fewer = omega arith;
            same = λ e. absurd (omega arith);
          };
          covers = λ s t cx cy k l c. elim c [
            | inl a ↦ inl (fired_still k a)
            | inr b ↦ inr (b.0, record { rule = b.1.rule; x = b.1.x; y = b.1.y; there = rw sq b.1.there }, looks-moves (length u) old.workings new.workings s t cx cy b.0 f.moves b.1.x b.1.y l b.2)
          ];
        }

  -- the queue of a pair is taken, and each of its instances is looked at
  module _ (old mid : Engine) (x y : ℕ) (list : List Waiting) (h : Tended u rules old) (lx : x < length u) (ly : y < length u) (is : list ≡ queue old.queues.rows.items x y) (sw : mid.workings ≡ old.workings) (sf : mid.fired ≡ old.fired) (sq : mid.queues.rows.items ≡ without old.queues.rows.items x y) where
    at_x : x < length old.queues.rows.items
    at_x = let l = h.queues.long in omega arith

    at_y : y < length (slice_index_or old.queues.rows.items x [])
    at_y = let l = h.queues.wide x lx in omega arith

    left : (v w : ℕ) (f : Waiting) → Contains (queue mid.queues.rows.items v w) f → Contains (queue old.queues.rows.items v w) f
    left v w f c = elim (same-pair v w x y) [
      | inl p ↦
          let bare : queue mid.queues.rows.items x y ≡ [] = rw sq (set-there old.queues.rows.items x y [] at_x at_y) in
          let gone : queue mid.queues.rows.items v w ≡ [] = ap (λ (a : ℕ). queue mid.queues.rows.items a w) p.0 ∙ ap (queue mid.queues.rows.items x) p.1 ∙ bare in
          let none : Contains {X = Waiting} [] f = subst (λ (l : List Waiting). Contains l f) gone c in
          absurd (let l = none.1 in omega arith)
      | inr n ↦ subst (λ (l : List Waiting). Contains l f) (rw sq (set-other old.queues.rows.items x y [] at_x v w n)) c
    ]

    pub take-tended : Tended u rules mid
    take-tended = record {
      fine = rw sw h.fine;
      many = rw sf h.many;
      queues = rw sq (queues-set old.queues.rows.items x y [] at_x (length u) h.queues);
      done = λ k g. rw sw (h.done k (rw sf at g));
      waiting = λ v w f c. rw sw (h.waiting v w f (left v w f c));
    }

    pub taken-waits : (e : Waiting) → Contains list e → IsWaiting u rules mid.workings e
    taken-waits e c = rw sw (h.waiting x y e (rw is at c))

    pub pair-looked : (new : Engine) (since : ℕ) → Onwards u rules mid new → ((e : Waiting) → Contains list e → (s t cx cy : ℕ) → t ≤ edges mid → Covered u new s t cx cy e.rule) → Looked u rules since x y x (y + 1) old new
    pair-looked new since o seen = record {
      steady = record {
        forward = rw sw at o.steady.forward;
        tended = o.steady.tended;
        longer = rw sw at o.steady.longer;
        fewer = rw sf at o.steady.fewer;
        same = rw (sf, sw) at o.steady.same;
      };
      covers = λ t k l c. elim c [
        | inl a ↦ o.covers since t x (y + 1) k (rw sw l) (inl (rw sf a))
        | inr b ↦ elim (same-pair b.0.seen.x b.0.seen.y x y) [
          | inl p ↦
              let there : Contains list b.0 = rw is (subst (λ (l : List Waiting). Contains l b.0) (ap (λ (a : ℕ). queue old.queues.rows.items a b.0.seen.y) p.0 ∙ ap (queue old.queues.rows.items x) p.1) b.1.there) in
              subst (λ (k : ℕ). Covered u new since t x (y + 1) k) b.1.rule (seen b.0 there since t x (y + 1) (rw sw l))
          | inr n ↦ o.covers since t x (y + 1) k (rw sw l) (inr (b.0, record { rule = b.1.rule; x = b.1.x; y = b.1.y; there = rw sq (rw (set-other old.queues.rows.items x y [] at_x b.0.seen.x b.0.seen.y n) b.1.there) }, rw sw (past since t b.0 n b.2)))
        ]
      ];
    }
      where
        past : (s t : ℕ) (e : Waiting) → (e.seen.x ≢ x) ⊎ (e.seen.y ≢ y) → Looks old.workings s t x y e → Looks old.workings s t x (y + 1) e
        past s t e n q = elim q [
          | inl a ↦ inl a
          | inr b ↦ elim b [
            | inl c ↦ inr (inl c)
            | inr c ↦ elim c.1 [
              | inl d ↦ inr (inr (c.0, inl d))
              | inr d ↦ elim n [
                | inl ne ↦ absurd (ne (sym d.0))
                | inr ne ↦ inr (inr (c.0, inr (d.0, let g = d.1 in omega arith)))
              ]
            ]
          ]
        ]

  -- a pair of which the bound wasn't lowered
  pub pair-quiet : (g : Engine) (since x y : ℕ) → Tended u rules g → marks g.workings x y < since → Looked u rules since x y x (y + 1) g g
  pair-quiet g since x y h l = record {
    steady = steady-same g h;
    covers = λ t k m c. elim c [
      | inl a ↦ inl a
      | inr b ↦ inr (b.0, b.1, past t b.0 b.2)
    ];
  }
    where
      past : (t : ℕ) (e : Waiting) → Looks g.workings since t x y e → Looks g.workings since t x (y + 1) e
      past t e q = elim q [
        | inl a ↦ inl a
        | inr b ↦ elim b [
          | inl c ↦ inr (inl c)
          | inr c ↦ elim c.1 [
            | inl d ↦ inr (inr (c.0, inl d))
            | inr d ↦ elim (same-pair e.seen.x e.seen.y x y) [
              | inl p ↦
                  let m : since ≤ marks g.workings x y = rw p.1 at (rw p.0 at c.0) in
                  absurd (omega arith)
              | inr n ↦ elim n [
                | inl ne ↦ absurd (ne (sym d.0))
                | inr ne ↦ inr (inr (c.0, inr (d.0, let g = d.1 in omega arith)))
              ]
            ]
          ]
        ]
      ]

  -- a whole row
  pub row-looked : (s cx cy x : ℕ) (old new : Engine) → Looked u rules s cx cy x (length u) old new → Looked u rules s cx cy (x + 1) 0 old new
  row-looked s cx cy x old new h = record {
    steady = h.steady;
    covers = λ t k l c. elim (h.covers t k l c) [
      | inl a ↦ inl a
      | inr b ↦ inr (b.0, b.1, past t b.0 b.1.y b.2)
    ];
  }
    where
      past : (t : ℕ) (e : Waiting) → e.seen.y < length u → Looks new.workings s t x (length u) e → Looks new.workings s t (x + 1) 0 e
      past t e ly q = elim q [
        | inl a ↦ inl a
        | inr b ↦ elim b [
          | inl c ↦ inr (inl c)
          | inr c ↦ elim c.1 [
            | inl d ↦ elim (cases_eq (x + 1) e.seen.x) [
              | inl p ↦ inr (inr (c.0, inr (p, omega arith)))
              | inr n ↦ inr (inr (c.0, inl (omega arith)))
            ]
            | inr d ↦ absurd (let g = d.1 in omega arith)
          ]
        ]
      ]

  -- the whole table
  pub all-looked : (s : ℕ) (old new : Engine) → AllCovered u rules old s → Looked u rules s 0 0 (length u) 0 old new → AllCovered u rules new (edges old)
  all-looked s old new h l t k lt = elim (l.covers (edges old) k (omega arith) (h (edges old) k lt)) [
    | inl a ↦ inl a
    | inr b ↦ inr (b.0, b.1, past b.0 b.1.x b.2)
  ]
    where
      past : (e : Waiting) → e.seen.x < length u → Looks new.workings s (edges old) (length u) 0 e → Looks new.workings (edges old) t 0 0 e
      past e lx q = elim q [
        | inl a ↦ inl a
        | inr b ↦ elim b [
          | inl c ↦ inr (inr (c, at_start e))
          | inr c ↦ elim c.1 [
            | inl d ↦ absurd (omega arith)
            | inr d ↦ absurd (let g = d.0 in omega arith)
          ]
        ]
      ]
        where
          at_start : (e : Waiting) → IsLater 0 0 e.seen.x e.seen.y
          at_start e = elim (cases_eq 0 e.seen.x) [
            | inl p ↦ inr (p, omega arith)
            | inr n ↦ inl (omega arith)
          ]

  pub fewer-fired : (old new : Engine) → Steady u rules old new → edges new ≢ edges old → unfired new.fired.items < unfired old.fired.items
  fewer-fired old new h n = elim (cases_eq (unfired new.fired.items) (unfired old.fired.items)) [
    | inl e ↦ absurd (n (h.same e))
    | inr ne ↦ (let f = h.fewer in omega arith)
  ]

  -- an instance that is covered for some pairs of numbers is so from the first on
  pub covered-from : (g : Engine) (s k : ℕ) → Covered u g s s 0 0 k → (t : ℕ) → Covered u g s t 0 0 k
  covered-from g s k c t = elim c [
    | inl a ↦ inl a
    | inr b ↦ inr (b.0, b.1, past b.0 b.2)
  ]
    where
      past : (e : Waiting) → Looks g.workings s s 0 0 e → Looks g.workings s t 0 0 e
      past e q = elim q [
        | inl a ↦ inl a
        | inr b ↦ elim b [
          | inl c ↦ inr (inr (c, at_start e))
          | inr c ↦ inr (inr c)
        ]
      ]
        where
          at_start : (e : Waiting) → IsLater 0 0 e.seen.x e.seen.y
          at_start e = elim (cases_eq 0 e.seen.x) [
            | inl p ↦ inr (p, omega arith)
            | inr n ↦ inl (omega arith)
          ]

  -- once no instance has to be looked at, each has fired or has a premise that fails
  pub settled : (g : Engine) → IsTending u rules g → AllSettled u rules g.workings
  settled g h r i = elim (h.covered (edges g) i.0 i.1) [
    | inl a ↦ inr (h.tended.done i.0 a r (got rules i.0 r i.1 (sym i.2)))
    | inr b ↦ inl (fails b.0 b.1 b.2)
  ]
    where
      fails : (e : Waiting) → Stands u g i.0 e → Looks g.workings (edges g) (edges g) 0 0 e → Fails u (bounds g.workings) r.premises
      fails e st q =
          let n = h.tended.fine.long in
          let p = st.x in
          let o = st.y in
          let below : marks g.workings e.seen.x e.seen.y < edges g = h.tended.fine.traced.below e.seen.x e.seen.y (omega arith) (omega arith) in
          let at : slice_get rules e.rule ≡ Some r = subst (λ (k : ℕ). slice_get rules k ≡ Some r) (sym st.rule) (got rules i.0 r i.1 (sym i.2)) in
          elim q [
            | inl a ↦ (h.tended.waiting e.seen.x e.seen.y e st.there).watched.fails (bounds g.workings) a r at
            | inr b ↦ elim b [
              | inl c ↦ absurd (omega arith)
              | inr c ↦ absurd (let m = c.0 in omega arith)
            ]
          ]

-- nothing waits yet
none-fired : (n k : ℕ) → slice_index_or (replicate n false) k false ≡ false
none-fired zero k = refl
none-fired (suc n) zero = refl
none-fired (suc n) (suc k) = none-fired n k

abbrev none : List Waiting
none = []

none-there : (m y : ℕ) → slice_index_or (replicate m none) y none ≡ none
none-there zero y = refl
none-there (suc m) zero = refl
none-there (suc m) (suc y) = none-there m y

none-queued : (n m x y : ℕ) → queue (replicate n (replicate m [])) x y ≡ []
none-queued zero m x y = refl
none-queued (suc n) m zero y = none-there m y
none-queued (suc n) m (suc x) y = none-queued n m x y

row-wide : (n m x : ℕ) → x < n → length (slice_index_or (replicate n (replicate m none)) x []) ≡ m
row-wide zero m x l = absurd (omega arith)
row-wide (suc n) m zero l = length-replicate m none
row-wide (suc n) m (suc x) l = row-wide n m x (omega arith)

pub tended-new : (u : List Atom) (rules : List RuleInst) (g : Engine) (n many : ℕ) → IsFine u g.workings → n ≡ length u → length rules ≡ many → g.fired.items ≡ replicate many false → g.queues.rows.items ≡ replicate n (replicate n []) → Tended u rules g
tended-new u rules g n many f en em sf sq = record {
  fine = f;
  many = ap length sf ∙ length-replicate many false ∙ sym em;
  queues = record {
    long = rw sq (length-replicate n (replicate n []) ∙ en);
    wide = λ x l. rw sq (row-wide n n x (omega arith) ∙ en);
  };
  done = λ k h. absurd (let no = none-fired many k in let yes = rw sf at h in cc);
  waiting = λ x y e c.
      let bare : queue g.queues.rows.items x y ≡ [] = rw sq (none-queued n n x y) in
      let gone : Contains {X = Waiting} [] e = subst (λ (l : List Waiting). Contains l e) bare c in
      absurd (let l = gone.1 in omega arith);
}

-- a constraint is taken in before anything else
pub tended-grown : (u : List Atom) (rules : List RuleInst) (old new : Engine) → AreRulesOver u rules → Tended u rules old → IsFine u new.workings → IsLower (length u) (bounds old.workings) (bounds new.workings) → new.fired ≡ old.fired → new.queues ≡ old.queues → Tended u rules new
tended-grown u rules old new over h f l sf sq = record {
  fine = f;
  many = rw sf h.many;
  queues = rw sq h.queues;
  done = λ k g. results-lower u rules old.workings new.workings k over l (h.done k (rw sf at g));
  waiting = λ x y e c. waiting-lower u rules old.workings new.workings e over l (h.waiting x y e (rw sq at c));
}

pub covered-grown : (u : List Atom) (rules : List RuleInst) (old new : Engine) → Moves (length u) old.workings new.workings → new.fired ≡ old.fired → new.queues ≡ old.queues → AllCovered u rules old (edges old) → AllCovered u rules new (edges old)
covered-grown u rules old new v sf sq h t k l = covered-from u rules new (edges old) k here t
  where
    here : Covered u new (edges old) (edges old) 0 0 k
    here = elim (h (edges old) k l) [
      | inl a ↦ inl (rw sf a)
      | inr b ↦ inr (b.0, record { rule = b.1.rule; x = b.1.x; y = b.1.y; there = rw sq b.1.there }, looks-moves (length u) old.workings new.workings (edges old) (edges old) 0 0 b.0 v b.1.x b.1.y (omega arith) b.2)
    ]

-- equal workings and queues
module _ (u : List Atom) (rules : List RuleInst) (g f : Engine) (rows : f.workings.table.rows.items ≡ g.workings.table.rows.items) (ms : f.workings.table.marks.items ≡ g.workings.table.marks.items) (es : f.workings.table.edges.items ≡ g.workings.table.edges.items) (sf : f.fired.items ≡ g.fired.items) (sq : f.queues.rows.items ≡ g.queues.rows.items) where
  pub fine-copy : IsFine u g.workings → IsFine u f.workings
  fine-copy h = record { long = rw rows h.long; traced = rw (rows, ms, es) h.traced }

  waiting_copy : (e : Waiting) → IsWaiting u rules g.workings e → IsWaiting u rules f.workings e
  waiting_copy e w = record {
    holding = record { within = w.holding.within; held = rw rows w.holding.held };
    x = w.x;
    y = w.y;
    watched = w.watched;
  }

  pub tending-copy : IsTending u rules g → IsTending u rules f
  tending-copy h = record {
    tended = record {
      fine = fine-copy h.tended.fine;
      many = rw sf h.tended.many;
      queues = rw sq h.tended.queues;
      done = λ k d. rw rows (h.tended.done k (rw sf at d));
      waiting = λ x y e c. waiting_copy e (h.tended.waiting x y e (rw sq at c));
    };
    covered = λ t k l. elim (h.covered t k l) [
      | inl a ↦ inl (rw sf a)
      | inr b ↦ inr (b.0, record { rule = b.1.rule; x = b.1.x; y = b.1.y; there = rw sq b.1.there }, rw (rows, ms, es) b.2)
    ];
  }

-- Loops.

module _ (u : List Atom) (rules : List RuleInst) (first old new : Engine) (longer : edges first ≤ edges old) (o : Onwards u rules old new) where
  pub covered-more : (i : ℕ) → IsCovered u new i → ((k : ℕ) → k < i → (s t cx cy : ℕ) → t ≤ edges first → Covered u old s t cx cy k) → (k : ℕ) → k < i + 1 → (s t cx cy : ℕ) → t ≤ edges first → Covered u new s t cx cy k
  covered-more i c h k l s t cx cy le = elim (cases_eq k i) [
    | inl e ↦ subst (λ (k : ℕ). Covered u new s t cx cy k) (sym e) (c s t cx cy)
    | inr n ↦ o.covers s t cx cy k (omega arith) (h k (omega arith) s t cx cy le)
  ]

  pub seen-more : (list : List Waiting) (i : ℕ) (d : Waiting) → i < length list → IsCovered u new (slice_index_or list i d).rule → ((e : Waiting) → Contains (take i list) e → (s t cx cy : ℕ) → t ≤ edges first → Covered u old s t cx cy e.rule) → (e : Waiting) → Contains (take (i + 1) list) e → (s t cx cy : ℕ) → t ≤ edges first → Covered u new s t cx cy e.rule
  seen-more list i d lt c h e k s t cx cy le = elim (Contains-push_cases (take i list) (slice_index_or list i d) e (subst (λ (l : List Waiting). Contains l e) (take_more list i d lt) k)) [
    | inl q ↦ o.covers s t cx cy e.rule (omega arith) (h e q s t cx cy le)
    | inr q ↦ subst (λ (e : Waiting). Covered u new s t cx cy e.rule) q (c s t cx cy)
  ]

pub seen-all : (u : List Atom) (first g : Engine) (list : List Waiting) (i : ℕ) → i ≡ length list → ((e : Waiting) → Contains (take i list) e → (s t cx cy : ℕ) → t ≤ edges first → Covered u g s t cx cy e.rule) → (e : Waiting) → Contains list e → (s t cx cy : ℕ) → t ≤ edges first → Covered u g s t cx cy e.rule
seen-all u first g list i q h e k = h e (subst (λ (l : List Waiting). Contains l e) (sym (ap (λ (n : ℕ). take n list) q ∙ take-length list)) k)
