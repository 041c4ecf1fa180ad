-- What a board knows of its work, as facts of numbers: they follow from the truncated one.
use Rattle.std.proofs.Common.{w64, ◌≡◌, ℕ, zero, suc, ◌+◌, ◌<◌, ◌≤◌, ◌^◌, ℤ, pos, Bool, true, false, if◌then◌else◌, Some, List, [], ◌∷◌, ◌++◌, length, get_or, set, map, take, refl, sym, ap, subst, ◌∙◌, inl, inr, arith}
use Rattle.std.specs.Prelude.{FitsSigned, Contains, slice_get}
use Rattle.std.specs.Coded.{le_prop}
use Rattle.std.specs.List.{filter}
use Rattle.std.proofs.lemmas.List.{length-map, length-append, get_or-append-add}
use mathlib.Core.Logic.{∥∥₁_elim}
use mathlib.Core.Bool.{Bool-set}
use native.Mathlib.Nat.{ℕ_set}
use lib.IntN.{ℤ_set}
use lib.Seq.{map-set}
use Rattle.wave_base.specs.declared.types.Cell.{Cell}
use Rattle.sched_types.specs.Fits.{Stands}
use Rattle.loop_core.specs.declared.nest.Nest.{Nest}
use Rattle.loop_core.specs.declared.place.Place.{Place}
use Rattle.loop_core.specs.Shape.{is_target}
use Rattle.loop_core.specs.Instances.{Instance, instances}
use Rattle.loop_core.specs.Values.{reads}
use Rattle.loop_core.specs.Registers.{shared_reads}
use Rattle.loop_core.specs.Touches as touches
use Rattle.loop_core.proofs.PlacesSet.{set_is_target}
use Rattle.loop_core.proofs.TargetKinds.{target_is_data}
use Rattle.core_cells.specs.Cells.{at_cell, IsInside}
use Rattle.core_cells.proofs.Places.{place_in, is_in, at_some, of_map, take_next}
use Rattle.core_words.specs.WordsOf.{words_of, word_place, AreWords}
use Rattle.core_words.proofs.Flat.{are_words}
use Rattle.core_law.specs.Works.{Instance as PlainInstance}
use Rattle.core_law.specs.Numbers.{instance_at, total, row}
use Rattle.core_law.specs.Sequential.{word_before}
use Rattle.core_law.specs.Scripts.{Action, look, read, write, finish, script, next}
use Rattle.core_law.specs.Machine.{State, Reached, place, opening}
use Rattle.core_law.specs.Standing.{finishes, finished}
use Rattle.core_law.specs.Teaching.{IsLast}
use Rattle.core_law.specs.Fit.{IsFit}
use Rattle.core_law.proofs.Numbers.{place_of}
use Rattle.core_law.proofs.Kept.{finishes_append}
use Rattle.core_law.proofs.Laying.{laid}
use Rattle.core_law.proofs.Reached.{holds}
use Rattle.core_law.proofs.Facts as facts
use Rattle.core_law.proofs.Bounded.{has_actions, has_shape}
use Rattle.core_rows.specs.Deeds.{Deed, RowWork}
use Rattle.core_rows.specs.Locals.{row_of}
use Rattle.core_rows.specs.Replay.{instance_of}
use Rattle.core_rows.proofs.Agree.{instances_long, rows_at}
use Rattle.core_nest.specs.Nested.{cell_of, deed_of, nest_work}
use Rattle.core_nest.proofs.Each.{Each, each_of, in_filtered}
use Rattle.core_nest.proofs.Nests.{fits, row_deeds, instance_is, plain_count, place_set}
use Rattle.core_machine.specs.declared.work.Work.{Work}
use Rattle.core_machine.specs.FitWork.{IsFitWork, plain}
use Rattle.done_words.specs.WordsOf.{word_of, written, words_in, opening_words, word_number, HasWord}
use Rattle.done_words.specs.Sound.{IsSound}
use Rattle.done_words.proofs.Small.{data_is_small}
use Rattle.done_words.proofs.Fitting.{cells_fit}
use Rattle.done_words.proofs.Listed.{apart, stands_in, same_offset}

passes : {A : Type 0} (q : A → Bool) (xs : List A) → Each (λ y. q y ≡ true) (filter q xs)
passes q [] = tt
passes q (x ∷ xs) = by (q x) refl (passes q xs)
  where
    by : (b : Bool) → q x ≡ b → Each (λ y. q y ≡ true) (filter q xs) → Each (λ y. q y ≡ true) (if b then x ∷ filter q xs else filter q xs)
    by true e rest = (e, rest)
    by false e rest = rest

-- a cell of an array that the nest writes, inside its list
pub record IsShared (w : Work) (cell : Cell) : Type 0 where
  pub inside : IsInside w.values cell
  pub target : is_target w.nest cell.array ≡ true
  pub small : cell.array.0 < 64

module _ (w : Work) (fit : IsFitWork w) where
  abbrev nest : Nest
  nest = w.nest

  abbrev rw' : RowWork
  rw' = nest_work w.nest w.arrays w.values w.sched.workers

  abbrev body : ℕ → List Instance
  body i = instances w.arrays w.nest (pos i)

  plain_fits : IsFit (plain w)
  plain_fits = fits w.nest w.arrays w.values w.sched.workers fit

  -- the loop's instance of this number
  record Known (g : ℕ) : Type 0 where
    pub row : ℕ
    pub s : Instance
    pub row_inside : row < w.arrays.n
    pub here : Contains (body row) s
    pub earlier : List Deed
    pub is : instance_at (plain w) g ≡ instance_of 16 earlier (deed_of w.nest w.values s)

  known : (g : ℕ) → g < total (plain w) → Known g
  known g l =
      let t = place_of (plain w).rows g l in
      let i : ℕ = t.0 in
      let j : ℕ = t.1 in
      let n = plain_count w.nest w.arrays w.values w.sched.workers fit in
      let in_i : i < w.arrays.n = (let b = t.2 in omega arith) in
      let long =
      ap (λ (z : List PlainInstance). length z) (rows_at 16 rw'.rows i)
      ∙ (instances_long 16 [] (row_of rw' i) ∙ (ap (λ (z : List Deed). length z) (row_deeds w.nest w.arrays w.values w.sched.workers fit i in_i) ∙ length-map (body i) (deed_of w.nest w.values)))
      in
      let b = t.3 in
      let u = at_some (body i) j (omega arith) in
      record {
        row = i;
        s = u.0;
        row_inside = in_i;
        here = is_in (body i) u.0 j u.1;
        earlier = take j (row_of rw' i);
        is = ap (instance_at (plain w)) t.4 ∙ instance_is w.nest w.arrays w.values w.sched.workers fit i j u.0 in_i u.1;
      }

  pub target_small : (cell : Cell) → is_target w.nest cell.array ≡ true → cell.array.0 < 64
  target_small cell e = data_is_small w.nest.decls cell.array fit.is_nest.few_arrays (target_is_data w.nest cell.array fit.is_nest e)

  shared_at : (p : Place) (cell : Cell) → cell_of p ≡ cell → touches.IsInside w.values p → is_target w.nest p.array ≡ true → IsShared w cell
  shared_at p cell e i t =
      let here : IsInside w.values (cell_of p) = subst (λ (z : ℤ). IsInside w.values (cell_of (record { array = p.array; at = z }))) (sym i.1) i.2 in
      let target : is_target w.nest cell.array ≡ true = ap (λ (c : Cell). is_target w.nest c.array) (sym e) ∙ t in
      record { inside = subst (IsInside w.values) e here; target = target; small = target_small cell target }

  pub read_shared : (g : ℕ) (cell : Cell) → g < total (plain w) → Contains (instance_at (plain w) g).reads cell → IsShared w cell
  read_shared g cell l rd =
      let k = known g l in
      let i = place_in (instance_at (plain w) g).reads cell rd in
      let shared : List Place = shared_reads w.nest k.s.value in
      let t = of_map cell_of shared i.0 cell (ap (λ (z : PlainInstance). slice_get z.reads i.0) (sym k.is) ∙ i.1) in
      let found : Contains shared t.0 = is_in shared t.0 i.0 t.1 in
      let is_read = in_filtered (λ (p : Place). is_target w.nest p.array) (reads k.s.value) t.0 found in
      let target = each_of (λ (p : Place). is_target w.nest p.array ≡ true) shared t.0 (passes (λ (p : Place). is_target w.nest p.array) (reads k.s.value)) found in
      shared_at t.0 cell t.2 (fit.inside k.row t.0 k.row_inside (inl (k.s, k.here, is_read))) target

  pub write_shared : (g : ℕ) (cell : Cell) → g < total (plain w) → (instance_at (plain w) g).target ≡ Some cell → IsShared w cell
  write_shared g cell l wr =
      let k = known g l in
      let set = place_set k.s.effect cell (ap (λ (z : PlainInstance). z.target) (sym k.is) ∙ wr) in
      shared_at set.0 cell set.2 (fit.inside k.row set.0 k.row_inside (inr (k.s, k.here, set.1))) (set_is_target w.arrays w.nest (pos k.row) k.s set.0 k.here set.1)

-- a finish is one task more, and no other action is
pub one_on : (w : Work) (k p : ℕ) (a : Action) → next (plain w) k p ≡ Some a → finished (plain w) k (suc p) ≡ finished (plain w) k p + finishes (a ∷ [])
one_on w k p a is = ap finishes (take_next (script (plain w) k) p a is) ∙ finishes_append (take p (script (plain w) k)) (a ∷ [])

few_tasks : (w : Work) → IsSound w → (k p : ℕ) → next (plain w) k p ≡ Some finish → finished (plain w) k p + 1 < 2 ^ 64
few_tasks w s k p is =
    let n = (laid (plain w) (plain_fits w s.fit)).few k (suc p) in
    let m = one_on w k p finish is in
    let t = s.tasks k in
    omega arith

true_of : (b : Bool) → ∥ b ≡ true ∥₁ → b ≡ true
true_of b h = ∥∥₁_elim h (Bool-set b true) (λ e. e)

module _ (w : Work) (sound : ∥ IsSound w ∥₁) where
  pub some_worker : 1 ≤ length w.sched.workers
  some_worker = ∥∥₁_elim sound le_prop (λ s. s.fit.some_worker)

  pub counts_long : (c : State) → Reached (plain w) c → length c.counts ≡ length w.sched.workers
  counts_long c r = ∥∥₁_elim sound (ℕ_set _ _) (λ s. (has_shape (plain w) c (plain_fits w s.fit) r).counts)

  pub stands_long : (c : State) → Reached (plain w) c → length c.stands ≡ length w.sched.workers
  stands_long c r = ∥∥₁_elim sound (ℕ_set _ _) (λ s. (has_shape (plain w) c (plain_fits w s.fit) r).stands)

  pub lists_long : (c : State) → Reached (plain w) c → (array : ℕ) → length (get_or c.cells array []) ≡ length (get_or w.values array [])
  lists_long c r array = ∥∥₁_elim sound (ℕ_set _ _) (λ s. (has_shape (plain w) c (plain_fits w s.fit) r).lists array)

  pub counted : (c : State) → Reached (plain w) c → (k : ℕ) → get_or c.counts k 0 ≡ finished (plain w) k (place c k)
  counted c r k = ∥∥₁_elim sound (ℕ_set _ _) (λ s. (holds (plain w) (plain_fits w s.fit) c r).counted k)

  pub cell_fits : (c : State) → Reached (plain w) c → (cell : Cell) → cell.array.0 < 64 → FitsSigned w64 (at_cell c.cells cell)
  cell_fits c r cell l = record { sfits = ∥∥₁_elim sound le_prop (λ s. (cells_fit w c cell s r l).sfits) }

  pub worker_is : (k p : ℕ) (a : Action) → next (plain w) k p ≡ Some a → k < length w.sched.workers
  worker_is k p a is = ∥∥₁_elim sound le_prop (λ s. (has_actions (plain w) k p (plain_fits w s.fit)).worker a is)

  pub look_inside : (k p f n : ℕ) → next (plain w) k p ≡ Some (look f n) → f < length w.sched.workers
  look_inside k p f n is = ∥∥₁_elim sound le_prop (λ s. ((has_actions (plain w) k p (plain_fits w s.fit)).at_look f n is).0)

  pub few : (k p : ℕ) → next (plain w) k p ≡ Some finish → finished (plain w) k p + 1 < 2 ^ 64
  few k p is = ∥∥₁_elim sound le_prop (λ s. few_tasks w s k p is)

  shared_of : (cell : Cell) → (IsSound w → IsShared w cell) → IsShared w cell
  shared_of cell h = record {
    inside = ∥∥₁_elim sound le_prop (λ s. (h s).inside);
    target = ∥∥₁_elim sound (Bool-set _ _) (λ s. (h s).target);
    small = ∥∥₁_elim sound le_prop (λ s. (h s).small);
  }

  pub read_is : (k p : ℕ) (b : Bool) (g : ℕ) (cell : Cell) → next (plain w) k p ≡ Some (read b g cell) → IsShared w cell
  read_is k p b g cell is = shared_of cell (λ s. let h = (has_actions (plain w) k p (plain_fits w s.fit)).at_read g b cell is in read_shared w s.fit g cell h.0 h.1)

  pub write_is : (k p : ℕ) (b : Bool) (g : ℕ) (cell : Cell) → next (plain w) k p ≡ Some (write b g cell) → IsShared w cell
  write_is k p b g cell is = shared_of cell (λ s. let h = (has_actions (plain w) k p (plain_fits w s.fit)).at_write g b cell is in write_shared w s.fit g cell h.0 h.1)

  pub taught_count : (c : State) → Reached (plain w) c → (k q f n : ℕ) → next (plain w) k q ≡ Some (look f n) → q < place c k → n ≤ get_or c.counts f 0
  taught_count c r k q f n is l = ∥∥₁_elim sound le_prop
      (λ s. let fit = plain_fits w s.fit in (facts.teaches (plain w) fit (laid (plain w) fit) c (holds (plain w) fit c r) k q f n is l).0)

  pub taught_value : (c : State) → Reached (plain w) c → (k q f n : ℕ) → next (plain w) k q ≡ Some (look f n) → q < place c k
      → (p g h b at : ℕ) (begins : Bool) (cell : Cell) → place c k ≤ p → next (plain w) k p ≡ Some (read begins g cell) → IsLast (plain w) h g cell
      → Stands w.sched.workers (record { 0 = row (plain w) h }) (record { worker = f; at = b }) at → b < n → at_cell c.cells cell ≡ word_before (plain w) (suc h) cell
  taught_value c r k q f n is l p g h b at begins cell m at_p last spot below = ∥∥₁_elim sound (ℤ_set _ _)
      (λ s. let fit = plain_fits w s.fit in (facts.teaches (plain w) fit (laid (plain w) fit) c (holds (plain w) fit c r) k q f n is l).1 p g h b at begins cell m at_p last spot below)

  -- the word of a shared cell

  module _ (c : State) (r : Reached (plain w) c) (cell : Cell) (shared : IsShared w cell) where
    inside_now : IsInside c.cells cell
    inside_now = let l = shared.inside in let e = lists_long c r cell.array.0 in omega arith

    words_now : AreWords (written w.nest) c.cells cell
    words_now = are_words (written w.nest) c.cells cell (apart w.nest) (stands_in w.nest cell.array.0 shared.small shared.target) inside_now

    same_place : word_place (written w.nest) c.cells cell ≡ word_place (written w.nest) w.values cell
    same_place = ap (λ (n : ℕ). n + cell.at) (same_offset (written w.nest) c.cells w.values cell.array.0 (lists_long c r))

    abbrev at_now : ℕ
    at_now = word_place (written w.nest) c.cells cell

    abbrev flat : List ℤ
    flat = words_of (written w.nest) c.cells

    number_is : word_number w cell ≡ length c.counts + at_now
    number_is = let e = counts_long c r in let p = same_place in omega arith

    map_at : (l : List ℤ) (x : ℕ) → get_or (map word_of l) x 0 ≡ word_of (get_or l x (pos 0))
    map_at [] x = refl
    map_at (z ∷ l) zero = refl
    map_at (z ∷ l) (suc x) = map_at l x

    set_right : (xs ys : List ℕ) (i j : ℕ) (v : ℕ) → i ≡ length xs + j → set (xs ++ ys) i v ≡ xs ++ set ys j v
    set_right [] ys i j v e = ap (λ (k : ℕ). set ys k v) (let h : i ≡ j = omega arith in h)
    set_right (x ∷ xs) ys zero j v e = absurd (omega arith)
    set_right (x ∷ xs) ys (suc i) j v e = ap (λ (zs : List ℕ). x ∷ zs) (set_right xs ys i j v (omega arith))

    pub has_word : HasWord w c cell
    has_word = record {
      inside = (let l = words_now.inside in let e = number_is in let m = length-append c.counts (map word_of flat) in let n = length-map flat word_of in omega arith);
      word = ap (λ (n : ℕ). get_or (words_in w c) n 0) number_is
          ∙ (get_or-append-add c.counts (map word_of flat) at_now 0 ∙ (map_at flat at_now ∙ ap word_of words_now.word));
      set = λ v. set_right c.counts (map word_of flat) (word_number w cell) at_now (word_of v) number_is
          ∙ ap (λ (l : List ℕ). c.counts ++ l) (sym (map-set word_of flat at_now v) ∙ ap (map word_of) (words_now.set v));
    }

  pub opens_reached : Reached (plain w) (opening (plain w))
  opens_reached = ([], refl)

  -- all states have as many words
  pub number_inside : (cell : Cell) → IsShared w cell → word_number w cell < length (opening_words w)
  number_inside cell shared = (has_word (opening (plain w)) opens_reached cell shared).inside

  pub worker_inside : (f : ℕ) → f < length w.sched.workers → f < length (opening_words w)
  worker_inside f l = let e = counts_long (opening (plain w)) opens_reached in let m = length-append (opening (plain w)).counts (map word_of (words_of (written w.nest) w.values)) in omega arith
