-- All workers' scripts are those of the nest's work.
use Rattle.std.proofs.Common.{◌≡◌, ℕ, zero, suc, ◌+◌, ◌<◌, ◌≤◌, ℤ, false, Some, List, [], ◌∷◌, ◌++◌, length, get_or, map, take, replicate, refl, sym, ap, subst, ◌∙◌, ⊎_elim, arith}
use Rattle.std.specs.Prelude.{Contains, slice_get}
use Rattle.std.specs.List.{flat_map}
use Rattle.std.proofs.lemmas.List.{append-nil, length-append, length-map}
use Rattle.std.proofs.lemmas.Bool.{cases_lt}
use Rattle.wave_base.specs.declared.types.RowId.{RowId}
use Rattle.sched_types.specs.declared.sched.Task.{Task}
use Rattle.sched_types.specs.Order.{Spot, tasks_of}
use Rattle.loop_core.specs.declared.nest.Nest.{Nest}
use Rattle.loop_core.specs.Lists.{Lists}
use Rattle.core_cells.proofs.Places.{none_is_some, some_same, place_in, is_in, of_pieces, in_pieces, at_some}
use Rattle.core_law.specs.Works.{Instance as PlainInstance, Work}
use Rattle.core_law.specs.Numbers.{first, total}
use Rattle.core_law.specs.Sequential.{read_with}
use Rattle.core_law.specs.Scripts as laws
use Rattle.core_law.specs.Scripts.{Action as LawAction, read, row_actions, script, next}
use Rattle.core_law.specs.Machine.{opening, stand}
use Rattle.core_law.proofs.Numbers.{place_of}
use Rattle.core_rows.specs.Deeds.{Deed}
use Rattle.core_rows.specs.Locals.{row_of}
use Rattle.core_rows.specs.Replay.{instances_after, instance_of, target_of}
use Rattle.core_rows.specs.Progress.{reads_in}
use Rattle.core_rows.proofs.Agree.{instances_long, rows_at, long_with}
use Rattle.core_nest.specs.Nested.{nest_work}
use Rattle.core_nest.specs.NestLaws.{plain_work}
use Rattle.core_nest.proofs.Nests.{plain_count}
use Rattle.core_value.specs.Taken.{flagged}
use Rattle.core_book.specs.declared.book.Book.{Book}
use Rattle.core_book.specs.declared.book.How.{How}
use Rattle.core_run.specs.declared.action.Action.{Action}
use Rattle.core_run.specs.declared.machine.Core.{Core}
use Rattle.core_run.specs.Cores.{core_of, hows_of}
use Rattle.core_run.specs.Links.{Does, at_end, IsOf}
use Rattle.core_unroll.specs.declared.unrolling.Unrolling.{Unrolling}
use Rattle.core_unroll.specs.Advances.{Match, Grows, Advances, IsReady, rows_of, AreBelow, TasksAdvance, AreUnrolled}
use Rattle.core_unroll.proofs.Extended.{grows_same, grows_more}
use Rattle.core_unroll.proofs.Matched.{match_at}
use Rattle.core_unroll.proofs.Advanced.{stays_ready}

-- numbers

lt_same : (i m n : ℕ) → i < m → m ≡ n → i < n
lt_same i m n l e = omega arith

le_same : (a b c : ℕ) → a ≤ b → c ≡ b → a ≤ c
le_same a b c l e = omega arith

same_le : (a b c : ℕ) → a ≡ b → b ≤ c → a ≤ c
same_le a b c e l = omega arith

le_more : (a b c : ℕ) → a ≤ b → b ≤ c → a ≤ c
le_more a b c l m = omega arith

le_until : (a b c d : ℕ) → a ≤ b → b ≤ c → d ≡ c → a ≤ d
le_until a b c d l m e = omega arith

is_last : (j k : ℕ) → j < k + 1 → k ≤ j → k ≡ j
is_last j k l m = omega arith

enough : (heard own few acts room : ℕ) → heard ≡ own → own ≤ few → few ≤ acts → acts ≤ room → heard ≤ room
enough heard own few acts room a b c d = omega arith

none_below : (j : ℕ) → j < 0 → ⊥
none_below j l = omega arith

one_longer : {A : Type 0} (xs : List A) (y : A) (k : ℕ) → length xs ≡ k → length (xs ++ y ∷ []) ≡ k + 1
one_longer xs y k e = let n = length-append xs (y ∷ []) in omega arith

get_left : {A : Type 0} (xs ys : List A) (j : ℕ) (d : A) → j < length xs → get_or (xs ++ ys) j d ≡ get_or xs j d
get_left [] ys j d l = absurd (omega arith)
get_left (x ∷ xs) ys zero d l = refl
get_left (x ∷ xs) ys (suc j) d l = get_left xs ys j d (omega arith)

get_last : {A : Type 0} (xs : List A) (y : A) (j : ℕ) (d : A) → j ≡ length xs → get_or (xs ++ y ∷ []) j d ≡ y
get_last [] y zero d e = refl
get_last [] y (suc j) d e = absurd (omega arith)
get_last (x ∷ xs) y zero d e = absurd (omega arith)
get_last (x ∷ xs) y (suc j) d e = get_last xs y j d (omega arith)

get_past : {A : Type 0} (xs : List A) (j : ℕ) (d : A) → length xs ≤ j → get_or xs j d ≡ d
get_past [] j d l = refl
get_past (x ∷ xs) zero d l = absurd (omega arith)
get_past (x ∷ xs) (suc j) d l = get_past xs j d (omega arith)

pub same_at : {A : Type 0} (xs : List A) (k : ℕ) (d e : A) → k < length xs → get_or xs k d ≡ get_or xs k e
same_at [] k d e l = absurd (omega arith)
same_at (x ∷ xs) zero d e l = refl
same_at (x ∷ xs) (suc k) d e l = same_at xs k d e (omega arith)

module _ (nest : Nest) (a : Lists) (x : List (List ℤ)) (workers : List (List Task)) where
  abbrev w : Work
  w = plain_work nest a x workers

  tasks_below : (u : Unrolling) (k : ℕ) → IsReady nest a x workers u → AreBelow a.n (flat_map rows_of (tasks_of workers k))
  tasks_below u k ready r i =
      let p = place_in (flat_map rows_of (tasks_of workers k)) r i in
      let t = in_pieces rows_of (tasks_of workers k) p.0 r p.1 in
      ready.fit.fits.rows_alone r (record { worker = k; at = t.0 }) t.1 (t.2, t.3, t.4)

  -- one worker more
  pub worker_more : (u v z : Unrolling) (k : ℕ) (scripts : List (List Action)) (hows : List (List How)) → k < length workers → AreUnrolled nest a x workers u k scripts hows
      → TasksAdvance nest a (get_or workers k []) u v
      → z.actions.items ≡ [] → z.hows.items ≡ [] → z.book ≡ v.book → z.values ≡ v.values → z.room ≡ v.room
      → AreUnrolled nest a x workers z (k + 1) (scripts ++ v.actions.items ∷ []) (hows ++ v.hows.items ∷ [])
  worker_more u v z k scripts hows l so_far tasks no_actions no_hows book values room =
      let f : Advances w u (script w k) (flat_map rows_of (tasks_of workers k)) v = tasks x workers so_far.ready (tasks_below u k so_far.ready) in
      let grown : (b : Book) → Grows z.book b → Grows v.book b = (λ b g. subst (λ (q : Book). Grows q b) book g) in
      let made : f.made ≡ v.actions.items = sym (f.actions ∙ ap (λ (l : List Action). l ++ f.made) so_far.actions) in
      let ready : IsReady nest a x workers v = stays_ready w nest a x workers u v (script w k) (flat_map rows_of (tasks_of workers k)) so_far.ready f in
      record {
        ready = record { fit = ready.fit; values = values ∙ ready.values; written = ap (λ (b : Book). flagged b.written.items) book ∙ ready.written };
        actions = no_actions;
        instances = no_hows;
        scripts_long = one_longer scripts v.actions.items k so_far.scripts_long;
        hows_long = one_longer hows v.hows.items k so_far.hows_long;
        does = λ j lt b g. ⊎_elim
            (λ (before : j < k).
            let P : List How × List Action → Type 0 = λ q. Match w b q.0 (script w j) q.1 in
            let in_hows = lt_same j k (length hows) before (sym so_far.hows_long) in
            let in_scripts = lt_same j k (length scripts) before (sym so_far.scripts_long) in
            subst P (λ i. (sym (get_left hows (v.hows.items ∷ []) j [] in_hows) i, sym (get_left scripts (v.actions.items ∷ []) j [] in_scripts) i))
            (so_far.does j before b (grows_more u.book v.book b f.extends.grows (grown b g))))
            (λ (here : k ≤ j).
            let same : k ≡ j = is_last j k lt here in
            let P : ℕ × (List How × List Action) → Type 0 = λ q. Match w b q.1.0 (script w q.0) q.1.1 in
            let at_hows : j ≡ length hows = sym (so_far.hows_long ∙ same) in
            let at_scripts : j ≡ length scripts = sym (so_far.scripts_long ∙ same) in
            subst P (λ i. (same i, (sym (get_last hows v.hows.items j [] at_hows) i, (made ∙ sym (get_last scripts v.actions.items j [] at_scripts)) i)))
            (f.does b v.hows.items (record { grows = grown b g; instances = ([], sym (append-nil v.hows.items)) })))
            (cases_lt j k);
        roomy = λ j lt r i. ⊎_elim
            (λ (before : j < k). le_until (length (row_actions w r)) u.room v.room z.room (so_far.roomy j before r i) f.room room)
            (λ (here : k ≤ j).
            let same : k ≡ j = is_last j k lt here in
            le_same (length (row_actions w r)) v.room z.room (f.roomy r (subst (λ (q : ℕ). Contains (flat_map rows_of (tasks_of workers q)) r) (sym same) i)) room)
            (cases_lt j k);
      }

  -- the reads of a row are among its actions
  reads_few : (ds : List Deed) (j : ℕ) (d : Deed) → slice_get ds j ≡ Some d → reads_in (take j ds) + length d.reads ≤ reads_in ds
  reads_few [] j d e = absurd (none_is_some d e)
  reads_few (q ∷ ds) zero d e = let h = ap (λ (z : Deed). length z.reads) (some_same q d e) in omega arith
  reads_few (q ∷ ds) (suc j) d e = let h = reads_few ds j d e in omega arith

  reads_acted : (n g : ℕ) (earlier ds : List Deed) → reads_in ds ≤ length (laws.numbered g (instances_after n earlier ds))
  reads_acted n g earlier [] = omega arith
  reads_acted n g earlier (d ∷ ds) =
      let h = reads_acted n (suc g) (earlier ++ d ∷ []) ds in
      let a1 = length-append (laws.actions g (instance_of n earlier d)) (laws.numbered (suc g) (instances_after n (earlier ++ d ∷ []) ds)) in
      let a2 = length-append (map (read false g) d.reads) (laws.write_of g (target_of d.effect)) in
      let a3 = length-map d.reads (read false g) in
      omega arith

  begun_long : (bs : List LawAction) → length (laws.begun bs) ≡ length bs
  begun_long [] = refl
  begun_long (b ∷ bs) = refl

  row_long : (i : ℕ) → reads_in (row_of (nest_work nest a x workers) i) ≤ length (row_actions w (record { 0 = i }))
  row_long i =
      let g : ℕ = first w i in
      let same : get_or w.rows i [] ≡ instances_after 16 [] (row_of (nest_work nest a x workers) i) = rows_at 16 (nest_work nest a x workers).rows i in
      let b = begun_long (laws.numbered g (get_or w.rows i [])) in
      let c = ap (λ (z : List PlainInstance). length (laws.numbered g z)) same in
      let h = reads_acted 16 g [] (row_of (nest_work nest a x workers) i) in
      omega arith

  in_workers : (k s : ℕ) (t : Task) → slice_get (tasks_of workers k) s ≡ Some t → k < length workers
  in_workers k s t e = ⊎_elim
      (λ (l : k < length workers). l)
      (λ (l : length workers ≤ k). absurd (none_is_some t (ap (λ (ts : List Task). slice_get ts s) (sym (get_past workers k [] l)) ∙ e)))
      (cases_lt k (length workers))

  -- there is room for what each row reads
  room_for : (u : Unrolling) (scripts : List (List Action)) (hows : List (List How)) → AreUnrolled nest a x workers u (length workers) scripts hows → (g : ℕ) → g < total w → length (read_with w g) ≤ u.room
  room_for u scripts hows all g l =
      let fit = all.ready.fit in
      let t = place_of w.rows g l in
      let i : ℕ = t.0 in
      let j : ℕ = t.1 in
      let n = plain_count nest a x workers fit in
      let r : RowId = record { 0 = i } in
      let ds : List Deed = row_of (nest_work nest a x workers) i in
      let same : get_or w.rows i [] ≡ instances_after 16 [] ds = rows_at 16 (nest_work nest a x workers).rows i in
      let long = ap (λ (z : List PlainInstance). length z) same ∙ instances_long 16 [] ds in
      let d = at_some ds j (lt_same j (length (get_or w.rows i [])) (length ds) t.3 long) in
      let heard = ap (λ (k : ℕ). length (read_with w k)) t.4 ∙ long_with (nest_work nest a x workers) i j d.0 d.1 in
      let s = fit.fits.stands r (lt_same i (length w.rows) a.n t.2 n) in
      let spot : Spot = s.0 in
      let task : Task = s.2.0 in
      let here = in_workers spot.worker spot.at task s.2.1 in
      let listed : Contains (flat_map rows_of (tasks_of workers spot.worker)) r =
      is_in (flat_map rows_of (tasks_of workers spot.worker)) r (length (flat_map rows_of (take spot.at (tasks_of workers spot.worker))) + s.1)
      (of_pieces rows_of (tasks_of workers spot.worker) (length (flat_map rows_of (take spot.at (tasks_of workers spot.worker))) + s.1) spot.at s.1 task r s.2.1 s.2.2 refl) in
      enough (length (read_with w g)) (reads_in (take j ds) + length d.0.reads) (reads_in ds) (length (row_actions w r)) u.room heard (reads_few ds j d.0 d.1) (row_long i) (all.roomy spot.worker here r listed)

  pub is_of : (u : Unrolling) (c : Core) → AreUnrolled nest a x workers u (length workers) c.scripts.items c.hows.items → c.book ≡ u.book → c.stands.room ≡ u.room → IsOf w c
  is_of u c all book room = record {
    does = λ k p. ⊎_elim
        (λ (l : k < length workers). match_at w c.book (hows_of c k) (script w k) (get_or c.scripts.items k []) (all.does k l c.book (subst (Grows u.book) (sym book) (grows_same u.book))) p)
        (λ (l : length workers ≤ k).
        let P : List Task × List Action → Type 0 = λ q. Does w c.book (hows_of c k) (slice_get (flat_map (laws.task_actions w) q.0) p) (slice_get q.1 p) in
        subst P (λ i. (sym (get_past workers k [] l) i, sym (get_past c.scripts.items k [] (same_le (length c.scripts.items) (length workers) k all.scripts_long l)) i)) at_end)
        (cases_lt k (length workers));
    room = λ g l. le_same (length (read_with w g)) u.room c.stands.room (room_for u c.scripts.items c.hows.items all g l) room;
    scripts = all.scripts_long;
    hows = all.hows_long;
  }

  pub begins : (c : Core) → c.values ≡ x → c.counts.items ≡ replicate (length workers) 0 → c.stands.stands ≡ replicate (length workers) (stand 0 []) → core_of c ≡ opening w
  begins c values counts stands = λ i. record { counts = counts i; cells = values i; stands = stands i }

  -- before the first worker
  pub none_yet : (u : Unrolling) → IsReady nest a x workers u → u.actions.items ≡ [] → u.hows.items ≡ [] → AreUnrolled nest a x workers u 0 [] []
  none_yet u ready actions hows = record {
    ready = ready;
    actions = actions;
    instances = hows;
    scripts_long = refl;
    hows_long = refl;
    does = λ j l. absurd (none_below j l);
    roomy = λ j l. absurd (none_below j l);
  }
