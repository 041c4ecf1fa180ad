-- Where a worker stands before, inside and after an instance of a row.
use Rattle.std.proofs.Common.{◌≡◌, ℕ, suc, ◌+◌, ◌<◌, ℤ, pos, Bool, true, false, List, [], ◌∷◌, ◌++◌, length, take, drop, Some, refl, sym, ap, subst, ◌∙◌, append_assoc, arith}
use Rattle.std.specs.Prelude.{slice_get}
use Rattle.std.proofs.lemmas.List.{length-append, length-map, map-append, drop_at, take_all}
use Rattle.wave_base.specs.declared.types.Cell.{Cell}
use Rattle.loop_core.specs.declared.place.Place.{Place}
use Rattle.loop_core.specs.declared.effect.Effect.{Effect}
use Rattle.loop_core.specs.declared.effect.Effect.TheVariants.{Sets, Keeps}
use Rattle.loop_core.specs.Instances.{Instance, instances}
use Rattle.loop_core.specs.Registers.{shared_reads, register_value}
use Rattle.loop_meaning.specs.Leads.{Leads, Admits}
use Rattle.core_cells.proofs.Places.{take_left, at_right}
use Rattle.core_law.specs.Numbers.{first, instance_at}
use Rattle.core_law.specs.Sequential.{kept}
use Rattle.core_law.specs.Scripts.{Action, write, write_of, numbered}
use Rattle.core_law.specs.Works as law
use Rattle.core_rows.specs.Deeds.{Deed}
use Rattle.core_rows.specs.Locals.{kept_by, row_of}
use Rattle.core_rows.specs.Replay.{target_of, instance_of, instances_after}
use Rattle.core_rows.specs.Progress.{Progress, begun_row, next_value, advanced, caught_up}
use Rattle.core_rows.proofs.Steps.{steps, stays}
use Rattle.core_nest.specs.Nested.{cell_of, effect_of, deed_of, nest_work}
use Rattle.core_nest.proofs.Nests.{row_deeds, instance_is}
use Rattle.core_machine.specs.declared.work.Work.{Work}
use Rattle.core_machine.specs.FitWork.{IsFitWork, plain}
use Rattle.done_words.specs.declared.view.View.{View}
use Rattle.done_words.specs.declared.view.View.TheVariants.{Spent, Main, Worker}
use Rattle.done_words.specs.Views as views
use Rattle.done_words.specs.Views.{registers_of, after_write}
use Rattle.done_words.specs.Seats.{view}
use Rattle.p2p_exec.specs.declared.run.Run.{Run}
use Rattle.p2p_exec.specs.Left.{IsLeft}
use Rattle.p2p_exec.specs.Rows.{to_come, deeds, acts, StandsBefore, IsOf, IsRow, IsSameRun, MayVisit, Visits}
use Rattle.p2p_exec.specs.Reading.{reads_of, still, HaveRead}
use Rattle.p2p_exec.specs.Putting.{StandsInside}
use Rattle.p2p_exec.proofs.Lefts.{next_left, write_left}
use Rattle.p2p_exec.proofs.Readings.{then_same}

caught_push : (registers : List ℤ) (ds : List Deed) (d : Deed) (p : Progress) → caught_up registers (ds ++ d ∷ []) p ≡ advanced registers d (caught_up registers ds p)
caught_push registers [] d p = refl
caught_push registers (e ∷ ds) d p = caught_push registers ds d (advanced registers e p)

write_first : (begins : Bool) (g : ℕ) (cell : Cell) (more tail : List Action) → to_come begins (write false g cell ∷ more) tail ≡ write begins g cell ∷ (more ++ tail)
write_first true g cell more tail = refl
write_first false g cell more tail = refl

push_deeds : (w : Work) (earlier : List Instance) (s : Instance) → deeds w (earlier ++ s ∷ []) ≡ deeds w earlier ++ deed_of w.nest w.values s ∷ []
push_deeds w earlier s = map-append (deed_of w.nest w.values) earlier (s ∷ [])

-- the actions of an instance stand before those of the next ones
acts_first : (w : Work) (i : ℕ) (earlier : List Instance) (s : Instance) (ss : List Instance)
    → acts w i earlier (s ∷ ss) ≡ reads_of w.nest (first (plain w) i + length earlier) s.value ++ (write_of (first (plain w) i + length earlier) (target_of (effect_of s.effect)) ++ acts w i (earlier ++ s ∷ []) ss)
acts_first w i earlier s ss =
    let g : ℕ = first (plain w) i + length earlier in
    let d : Deed = deed_of w.nest w.values s in
    let next : suc g ≡ first (plain w) i + length (earlier ++ s ∷ []) = (let n = length-append earlier (s ∷ []) in omega arith) in
    append_assoc (reads_of w.nest g s.value) (write_of g (target_of (effect_of s.effect))) (numbered (suc g) (instances_after 16 (deeds w earlier ++ d ∷ []) (deeds w ss)))
    ∙ (λ t. reads_of w.nest g s.value ++ (write_of g (target_of (effect_of s.effect)) ++ numbered (next t) (instances_after 16 (sym (push_deeds w earlier s) t) (deeds w ss))))

own_taken : (n : ℕ) (registers own : List ℤ) → n ≡ length own → take n (drop (length registers) (registers ++ own)) ≡ own
own_taken n registers own e = ap (take n) (drop_at registers own (length registers) refl) ∙ take_all n own (omega arith)

-- the value of the next instance over what the row has read, with its own reads
value_next : (w : Work) (earlier : List Instance) (s : Instance) (locals registers own : List ℤ) → length own ≡ length (shared_reads w.nest s.value)
    → caught_up registers (deeds w earlier) (begun_row 16) ≡ record { locals = locals; used = length registers }
    → (caught_up (registers ++ own) (deeds w earlier) (begun_row 16) ≡ record { locals = locals; used = length registers })
    × (next_value (registers ++ own) (deed_of w.nest w.values s) (record { locals = locals; used = length registers }) ≡ register_value w.nest w.values locals s.value own)
value_next w earlier s locals registers own many caught =
    let ds : List Deed = deeds w earlier in
    let d : Deed = deed_of w.nest w.values s in
    let used = (stays registers own ds (begun_row 16)).used in
    let is_used = ap (λ (p : Progress). p.used) caught in
    let n : length d.reads ≡ length own = length-map (shared_reads w.nest s.value) cell_of ∙ sym many in (
      (stays registers own ds (begun_row 16)).same (omega arith) ∙ caught,
      ap (λ (l : List ℤ). register_value w.nest w.values locals s.value l) (own_taken (length d.reads) registers own n),
    )

pub inside : (w : Work) (k i : ℕ) (tail : List Action) (x y : Run) (s : Instance) (ss : List Instance) (word : ℤ) (h : StandsBefore w k i tail (view x.seat.now) x.locals (s ∷ ss)) → y.locals ≡ x.locals
    → HaveRead w k h.begins s.value (write_of (first (plain w) i + length h.earlier) (target_of (effect_of s.effect)) ++ acts w i (h.earlier ++ s ∷ []) ss) tail x y word
    → StandsInside w k i tail (view y.seat.now) y.locals s ss word
inside w k i tail x y s ss word h same r =
    let ds : List Deed = deeds w h.earlier in
    let d : Deed = deed_of w.nest w.values s in
    let registers : List ℤ = kept h.begins (registers_of (view x.seat.now)) in
    let now : List ℤ = kept (still h.begins (shared_reads w.nest s.value)) (registers_of (view y.seat.now)) in
    let v = value_next w h.earlier s x.locals registers r.own r.many h.caught in
    let value : next_value (registers ++ r.own) d (record { locals = x.locals; used = length registers }) ≡ word = v.1 ∙ sym r.value in
    let long : length registers + length d.reads ≡ length now =
    (let a = ap (λ (l : List ℤ). length l) r.registers in
    let b = length-append registers r.own in
    let c = r.many in
    let e = length-map (shared_reads w.nest s.value) cell_of in
    omega arith) in
    record {
      earlier = h.earlier;
      row_is = h.row_is;
      begins = still h.begins (shared_reads w.nest s.value);
      left = r.left;
      value = ap (λ (l : List ℤ). (instance_of 16 ds d).value l) r.registers
          ∙ (steps 16 ds d (registers ++ r.own)
          ∙ (ap (next_value (registers ++ r.own) d) v.0 ∙ value));
      caught = ap (λ (l : List Deed). caught_up now l (begun_row 16)) (push_deeds w h.earlier s)
          ∙ (caught_push now ds d (begun_row 16)
          ∙ (ap (λ (l : List ℤ). advanced l d (caught_up l ds (begun_row 16))) r.registers
          ∙ (ap (advanced (registers ++ r.own) d) v.0
          ∙ (λ t. record { locals = kept_by d.effect (sym same t) (value t); used = long t }))));
    }

-- before an instance its reads are next
pub reads_next : (w : Work) (k i : ℕ) (tail : List Action) (v : View) (locals : List ℤ) (s : Instance) (ss : List Instance) (h : StandsBefore w k i tail v locals (s ∷ ss))
    → IsLeft w k v (to_come h.begins (reads_of w.nest (first (plain w) i + length h.earlier) s.value ++ (write_of (first (plain w) i + length h.earlier) (target_of (effect_of s.effect)) ++ acts w i (h.earlier ++ s ∷ []) ss)) tail)
reads_next w k i tail v locals s ss h = subst (λ (l : List Action). IsLeft w k v (to_come h.begins l tail)) (acts_first w i h.earlier s ss) h.left

-- where an instance has no write, it ends with its reads
pub after_keep : (w : Work) (k i : ℕ) (tail : List Action) (v : View) (locals : List ℤ) (s : Instance) (ss : List Instance) (word : ℤ) (local : ℕ) → s.effect ≡ Keeps local
    → StandsInside w k i tail v locals s ss word → StandsBefore w k i tail v (kept_by (effect_of (Keeps local)) locals word) ss
after_keep w k i tail v locals s ss word local e h = record {
  earlier = h.earlier ++ s ∷ [];
  row_is = h.row_is ∙ sym (append_assoc h.earlier (s ∷ []) ss);
  begins = h.begins;
  left = subst (λ (f : Effect). IsLeft w k v (to_come h.begins (write_of (first (plain w) i + length h.earlier) (target_of (effect_of f)) ++ acts w i (h.earlier ++ s ∷ []) ss) tail)) e h.left;
  caught = h.caught ∙ ap (λ (f : Effect). record { locals = kept_by (effect_of f) locals word; used = length (kept h.begins (registers_of v)) }) e;
}

-- else with its write

write_next : (w : Work) (k i : ℕ) (tail : List Action) (v : View) (locals : List ℤ) (s : Instance) (ss : List Instance) (word : ℤ) (p : Place) → s.effect ≡ Sets p
    → (h : StandsInside w k i tail v locals s ss word) → IsLeft w k v (write h.begins (first (plain w) i + length h.earlier) (cell_of p) ∷ (acts w i (h.earlier ++ s ∷ []) ss ++ tail))
write_next w k i tail v locals s ss word p e h =
    subst (IsLeft w k v) (write_first h.begins (first (plain w) i + length h.earlier) (cell_of p) (acts w i (h.earlier ++ s ∷ []) ss) tail)
    (subst (λ (f : Effect). IsLeft w k v (to_come h.begins (write_of (first (plain w) i + length h.earlier) (target_of (effect_of f)) ++ acts w i (h.earlier ++ s ∷ []) ss) tail)) e h.left)

pub after_set : (w : Work) (k i : ℕ) (tail : List Action) (v : View) (locals : List ℤ) (s : Instance) (ss : List Instance) (word : ℤ) (p : Place) → s.effect ≡ Sets p
    → StandsInside w k i tail v locals s ss word → StandsBefore w k i tail (after_write v) locals ss
after_set w k i tail v locals s ss word p e h =
    let next = write_left w k v h.begins (first (plain w) i + length h.earlier) (cell_of p) (acts w i (h.earlier ++ s ∷ []) ss ++ tail) (write_next w k i tail v locals s ss word p e h) in
    record {
      earlier = h.earlier ++ s ∷ [];
      row_is = h.row_is ∙ sym (append_assoc h.earlier (s ∷ []) ss);
      begins = false;
      left = next.0;
      caught = ap (λ (l : List ℤ). caught_up l (deeds w (h.earlier ++ s ∷ [])) (begun_row 16)) next.1
          ∙ (h.caught
          ∙ (λ t. record { locals = kept_by (effect_of (e t)) locals word; used = length (sym next.1 t) }));
    }

-- the instance of the work is that of the row
instance_there : (w : Work) (i : ℕ) (earlier : List Instance) (s : Instance) (ss : List Instance) → IsFitWork w → i < w.arrays.n → instances w.arrays w.nest (pos i) ≡ earlier ++ s ∷ ss
    → instance_at (plain w) (first (plain w) i + length earlier) ≡ instance_of 16 (deeds w earlier) (deed_of w.nest w.values s)
instance_there w i earlier s ss fit l row =
    let k : ℕ = length earlier in
    let body : List Instance = instances w.arrays w.nest (pos i) in
    let here : slice_get body k ≡ Some s = ap (λ (z : List Instance). slice_get z k) row ∙ at_right earlier (s ∷ ss) k 0 s (omega arith) refl in
    let d : Deed = deed_of w.nest w.values s in
    let front : take k (row_of (nest_work w.nest w.arrays w.values w.sched.workers) i) ≡ deeds w earlier =
    ap (take k) (row_deeds w.nest w.arrays w.values w.sched.workers fit i l ∙ (ap (deeds w) row ∙ map-append (deed_of w.nest w.values) earlier (s ∷ ss)))
    ∙ (take_left (deeds w earlier) (deeds w (s ∷ ss)) k (let n = length-map earlier (deed_of w.nest w.values) in omega arith)
    ∙ take_all k (deeds w earlier) (let n = length-map earlier (deed_of w.nest w.values) in omega arith)) in
    instance_is w.nest w.arrays w.values w.sched.workers fit i k s l here ∙ ap (λ (z : List Deed). instance_of 16 z d) front

writes_next : (w : Work) (k g : ℕ) (v : View) (begins : Bool) (cell : Cell) (more : List Action) (word : ℤ) → IsLeft w k v (write begins g cell ∷ more)
    → word ≡ (instance_at (plain w) g).value (kept begins (registers_of v)) → views.Writes v cell word
writes_next w k g Spent begins cell more word left e = absurd left.about
writes_next w k g (Main m) begins cell more word left e = absurd (let n = left.number in omega arith)
writes_next w k g (Worker d) begins cell more word left e =
    (begins, g, next_left w k d (write begins g cell) more left, e ∙ ap (λ (z : Work). (instance_at (plain z) g).value (kept begins d.registers)) (sym left.about))

pub may_write : (w : Work) (k i : ℕ) (tail : List Action) (v : View) (locals : List ℤ) (s : Instance) (ss : List Instance) (word : ℤ) (p : Place) → IsRow w i → s.effect ≡ Sets p
    → StandsInside w k i tail v locals s ss word → views.Writes v (cell_of p) word
may_write w k i tail v locals s ss word p row e h =
    let g : ℕ = first (plain w) i + length h.earlier in
    writes_next w k g v h.begins (cell_of p) (acts w i (h.earlier ++ s ∷ []) ss ++ tail) word
    (write_next w k i tail v locals s ss word p e h)
    (sym h.value ∙ ap (λ (z : law.Instance). z.value (kept h.begins (registers_of v))) (sym (instance_there w i h.earlier s ss row.fit row.here h.row_is)))

-- a run that stands before the instances of a row may visit them, and then stands past them

pub admitted : (w : Work) (k i : ℕ) (tail : List Action) → IsRow w i → (ss : List Instance) (x : Run) → IsOf w x → StandsBefore w k i tail (view x.seat.now) x.locals ss → Admits MayVisit Visits x ss
admitted w k i tail row [] x of' h = tt
admitted w k i tail row (s ∷ ss) x of' h =
    ((w, k, i, tail, ss, row, of', h), λ y m. let next = m.1 w k i tail ss row of' h in admitted w k i tail row ss y next.0 next.1)

pub walked : (w : Work) (k i : ℕ) (tail : List Action) → IsRow w i → (ss : List Instance) (x y : Run) → IsOf w x → StandsBefore w k i tail (view x.seat.now) x.locals ss → Leads Visits x ss y
    → IsOf w y × StandsBefore w k i tail (view y.seat.now) y.locals []
walked w k i tail row [] x y of' h leads = subst (λ (z : Run). IsOf w z × StandsBefore w k i tail (view z.seat.now) z.locals []) leads (of', h)
walked w k i tail row (s ∷ ss) x y of' h leads =
    let next = leads.1.1 w k i tail ss row of' h in
    walked w k i tail row ss leads.0 y next.0 next.1 leads.2

pub still_same : (ss : List Instance) (x y : Run) → Leads Visits x ss y → IsSameRun x y
still_same [] x y leads = subst (IsSameRun x) leads (record { seat = refl; board = refl; values = refl; written = refl })
still_same (s ∷ ss) x y leads = then_same x leads.0 y leads.1.0 (still_same ss leads.0 y leads.2)
