-- The words are copied, array after array, into lists of the same lengths.
use Rattle.std.proofs.Common.{◌≡◌, ℕ, suc, ◌+◌, ◌<◌, ◌≤◌, ℤ, pos, Bool, true, false, if◌then◌else◌, List, [], length, get_or, set, refl, sym, ap, subst, ◌∙◌, ⊎_elim, arith}
use Rattle.std.proofs.lemmas.List.{length-set, get_or-set_same, get_or-set_other, get_or_past, ext_get_or}
use Rattle.std.proofs.lemmas.Bool.{cases_lt, cases_eq}
use Rattle.std.proofs.lemmas.Int.{to_z-of_z}
use Rattle.std.proofs.Common.{w64}
use mathlib.Core.Logic.{∥∥₁_elim}
use Rattle.std.specs.Coded.{le_prop}
use native.Mathlib.Nat.{ℕ_set}
use lib.IntN.{ℤ_set}
use Rattle.atomic_table.specs.Table.{Final, Seen}
use Rattle.wave_base.specs.declared.types.ArrayId.{ArrayId}
use Rattle.wave_base.specs.declared.types.Cell.{Cell}
use Rattle.loop_core.specs.Lengths.{HaveLengths}
use Rattle.loop_core.specs.Shape.{is_target}
use Rattle.loop_core.specs.Sequence.{sequential}
use Rattle.loop_core.proofs.TargetKinds.{target_is_data}
use Rattle.core_cells.specs.Cells.{at_cell}
use Rattle.core_words.specs.WordsOf.{list_of, offset}
use Rattle.core_law.specs.Machine.{State, Reached}
use Rattle.core_law.specs.Standing.{HasEnded}
use Rattle.core_nest.specs.NestLaws.{EndsAsLoop}
use Rattle.core_machine.specs.declared.work.Work.{Work}
use Rattle.core_machine.specs.FitWork.{IsFitWork, plain}
use Rattle.done_words.specs.declared.layout.Span.{Span}
use Rattle.done_words.specs.declared.view.View.{View}
use Rattle.done_words.specs.declared.view.View.TheVariants.{Spent, Main, Worker}
use Rattle.done_words.specs.WordsOf.{written as written_of, value_of, word_number, words_in, span, spans_of, opening_words}
use Rattle.done_words.specs.Copied.{AreCopied}
use Rattle.done_words.specs.Views.{leads}
use Rattle.done_words.specs.Rule.{Table, Keeps, IsIn}
use Rattle.done_words.specs.Seats.{HasAll}
use Rattle.done_words.specs.Sound.{IsSound, IsClosed}
use Rattle.done_words.proofs.Listed.{span_there, number_at}
use Rattle.done_words.proofs.Touched.{IsShared, has_word, cell_fits, number_inside, lists_long, target_small}
use Rattle.done_words.proofs.Kept.{main_of}

-- one array

pub none_copied : (words : List ℕ) (first array : ℕ) (x : List (List ℤ)) → AreCopied words first 0 array x x
none_copied words first array x = record {
  copied = λ at l. absurd (omega arith);
  beyond = λ at l. refl;
  others = λ other ne. refl;
  long = refl;
  lists = refl;
}

module _ (y : List (List ℤ)) (array at : ℕ) (v : ℤ) where
  abbrev list : List ℤ
  list = list_of y array

  abbrev after : List (List ℤ)
  after = set y array (set list at v)

  there : at < length list → array < length y
  there l = ⊎_elim (λ h. h) (λ (past : length y ≤ array). let e = ap (λ (z : List ℤ). length z) (get_or_past y array [] past) in absurd (omega arith)) (cases_lt array (length y))

  own : at < length list → list_of after array ≡ set list at v
  own l = get_or-set_same y array (set list at v) [] (there l)

  other_list : (b : ℕ) → (b ≡ array → ⊥) → list_of after b ≡ list_of y b
  other_list b ne = get_or-set_other y array b (set list at v) [] ne

pub one_more_copied : (words : List ℕ) (first n array : ℕ) (x y : List (List ℤ)) (v : ℤ) → AreCopied words first n array x y → n < length (list_of x array) → v ≡ value_of (get_or words (first + n) 0)
    → AreCopied words first (n + 1) array x (set y array (set (list_of y array) n v))
one_more_copied words first n array x y v h l value =
    let long = h.long in
    let inside : n < length (list_of y array) = omega arith in
    let is = own y array n v inside in
    record {
      copied = λ at k. ap (λ (z : List ℤ). get_or z at (pos 0)) is ∙ ⊎_elim
          (λ (e : at ≡ n). subst (λ (m : ℕ). get_or (set (list_of y array) n v) m (pos 0) ≡ value_of (get_or words (first + m) 0)) (sym e) (get_or-set_same (list_of y array) n v (pos 0) inside ∙ value))
          (λ (ne : at ≡ n → ⊥). get_or-set_other (list_of y array) n at v (pos 0) ne ∙ h.copied at (omega arith))
          (cases_eq at n);
      beyond = λ at k. ap (λ (z : List ℤ). get_or z at (pos 0)) is ∙ (get_or-set_other (list_of y array) n at v (pos 0) (λ e. absurd (omega arith)) ∙ h.beyond at (omega arith));
      others = λ other ne. other_list y array n v other ne ∙ h.others other ne;
      long = ap (λ (z : List ℤ). length z) is ∙ (length-set (list_of y array) n v ∙ h.long);
      lists = length-set y array (set (list_of y array) n v) ∙ h.lists;
    }

-- the span of an array

span_of_target : (w : Work) (k : ℕ) → is_target w.nest (record { 0 = k }) ≡ true → (span w k).size ≡ length (list_of w.values k)
span_of_target w k e = ap (λ (b : Bool). (let s : Span = if b then record { first = length w.sched.workers + offset (written_of w.nest) w.values k; size = length (list_of w.values k) } else record { first = 0; size = 0 } in s.size)) e

-- all arrays

pub record CopiedTo (w : Work) (words : List ℕ) (n : ℕ) (before after : List (List ℤ)) : Type 0 where
  pub written : (cell : Cell) → cell.array.0 < n → is_target w.nest cell.array ≡ true → cell.at < length (list_of w.values cell.array.0)
      → at_cell after cell ≡ value_of (get_or words (word_number w cell) 0)
  pub others : (array : ArrayId) → is_target w.nest array ≡ false → list_of after array.0 ≡ list_of before array.0
  pub longs : (array : ℕ) → length (list_of after array) ≡ length (list_of before array)
  pub lists : length after ≡ length before

span_first : (w : Work) (cell : Cell) → cell.array.0 < 64 → is_target w.nest cell.array ≡ true → (span w cell.array.0).first + cell.at ≡ word_number w cell
span_first w cell l target = number_at w (spans_of w) cell (span w cell.array.0) refl (sym (span_there w cell.array.0 (span w cell.array.0) l)) l target

abbrev cell_at : ℕ → ℕ → Cell
cell_at k at = record { array = record { 0 = k }; at = at }

size_none : (w : Work) (k : ℕ) → is_target w.nest (record { 0 = k }) ≡ false → (span w k).size ≡ 0
size_none w k e = ap (λ (b : Bool). (let s : Span = if b then record { first = length w.sched.workers + offset (written_of w.nest) w.values k; size = length (list_of w.values k) } else record { first = 0; size = 0 } in s.size)) e

module _ (w : Work) (words : List ℕ) where
  pub no_array : (x : List (List ℤ)) → CopiedTo w words 0 x x
  no_array x = record { written = λ cell l target inside. absurd (omega arith); others = λ array e. refl; longs = λ array. refl; lists = refl }

  pub next_array : (k : ℕ) (x y z : List (List ℤ)) → k < 64 → CopiedTo w words k x y → AreCopied words (span w k).first (span w k).size k y z → CopiedTo w words (suc k) x z
  next_array k x y z small h one = record {
    written = λ cell l target inside. ⊎_elim
        (λ (e : cell.array.0 ≡ k).
        let size : (span w k).size ≡ length (list_of w.values cell.array.0) = subst (λ (j : ℕ). (span w j).size ≡ length (list_of w.values cell.array.0)) e (span_of_target w cell.array.0 target) in
        let first : (span w k).first + cell.at ≡ word_number w cell = subst (λ (j : ℕ). (span w j).first + cell.at ≡ word_number w cell) e (span_first w cell (omega arith) target) in
        ap (λ (j : ℕ). get_or (list_of z j) cell.at (pos 0)) e ∙ (one.copied cell.at (omega arith) ∙ ap (λ (j : ℕ). value_of (get_or words j 0)) first))
        (λ (ne : cell.array.0 ≡ k → ⊥). ap (λ (l : List ℤ). get_or l cell.at (pos 0)) (one.others cell.array.0 ne) ∙ h.written cell (lower cell.array.0 l ne) target inside)
        (cases_eq cell.array.0 k);
    others = λ array e. ⊎_elim
        (λ (is : array.0 ≡ k).
        let none : (span w k).size ≡ 0 = subst (λ (j : ℕ). (span w j).size ≡ 0) is (size_none w array.0 e) in
        let same : list_of z k ≡ list_of y k = ext_get_or (pos 0) (list_of z k) (list_of y k) one.long (λ i l. one.beyond i (omega arith)) in
        subst (λ (j : ℕ). list_of z j ≡ list_of y j) (sym is) same ∙ h.others array e)
        (λ (ne : array.0 ≡ k → ⊥). one.others array.0 ne ∙ h.others array e)
        (cases_eq array.0 k);
    longs = λ array. ⊎_elim
        (λ (is : array ≡ k). subst (λ (j : ℕ). length (list_of z j) ≡ length (list_of y j)) (sym is) one.long ∙ h.longs array)
        (λ (ne : array ≡ k → ⊥). ap (λ (l : List ℤ). length l) (one.others array ne) ∙ h.longs array)
        (cases_eq array k);
    lists = one.lists ∙ h.lists;
  }
    where
      lower : (j : ℕ) → j < suc k → (j ≡ k → ⊥) → j < k
      lower j l ne = ⊎_elim (λ h. h) (λ (le : k ≤ j). absurd (ne (let e : j ≡ k = omega arith in e))) (cases_lt j k)

-- the end

pub record Ending (w : Work) (words : List ℕ) : Type 0 where
  pub state : State
  pub reached : Reached (plain w) state
  pub ended : HasEnded (plain w) state
  pub words_are : words ≡ words_in w state

pub ending : (w : Work) (id : ℕ) (v : View) (words : List ℕ) (slots : List (Unit {0})) → leads v ≡ 1 → HasAll w v → Final (Seen (Keeps w) id v) words slots → Ending w words
ending w id Spent words slots is all last = absurd (omega arith)
ending w id (Worker d) words slots is all last = absurd (omega arith)
ending w id (Main m) words slots is all last =
    let s : Table = last.0 in
    let r : Keeps w s = last.1.0 in
    let h = main_of w s r id m last.1.1 in
    record {
      state = r.state;
      reached = r.reached;
      ended = λ k l. let e = (r.ended k (subst (IsIn k) h.3 (all.1 k l))).1 in omega arith;
      words_are = sym last.2 ∙ r.words_are;
    }

abbrev pub EndsLaw : Type 0
EndsLaw = (u : Work) (c : State) → IsFitWork u → Reached (plain u) c → EndsAsLoop u.nest u.arrays u.values u.sched.workers c

module _ (w : Work) (sound : ∥ IsSound w ∥₁) where
  -- a span's words are all there
  pub span_inside : (k at : ℕ) → k < 64 → at < (span w k).size → (span w k).first + at < length (opening_words w)
  span_inside k at small l = by (is_target w.nest (record { 0 = k })) refl
    where
      by : (b : Bool) → is_target w.nest (record { 0 = k }) ≡ b → (span w k).first + at < length (opening_words w)
      by false e = let none = size_none w k e in absurd (omega arith)
      by true e =
          let cell : Cell = cell_at k at in
          let size = span_of_target w k e in
          let first : (span w k).first + at ≡ word_number w cell = span_first w cell small e in
          let shared : IsShared w cell = record { inside = (let i : at < length (list_of w.values k) = omega arith in i); target = e; small = small } in
          let n = number_inside w sound cell shared in
          omega arith

  -- and so are the places for them
  pub span_fits : (k : ℕ) (x : List (List ℤ)) → HaveLengths w.nest.decls w.arrays x → (span w k).size ≤ length (list_of x k)
  span_fits k x room = by (is_target w.nest (record { 0 = k })) refl
    where
      by : (b : Bool) → is_target w.nest (record { 0 = k }) ≡ b → (span w k).size ≤ length (list_of x k)
      by false e = let none = size_none w k e in omega arith
      by true e =
          let size = span_of_target w k e in
          ∥∥₁_elim sound le_prop (λ s.
          let array : ArrayId = record { 0 = k } in
          let of_data = target_is_data w.nest array s.fit.is_nest e in
          let a = room.of_data array of_data in
          let b = s.fit.lengths.of_data array of_data in
          omega arith)

  module _ (words : List ℕ) (end : Ending w words) (law : EndsLaw) where
    final_value : (cell : Cell) → IsShared w cell → value_of (get_or words (word_number w cell) 0) ≡ at_cell (sequential w.nest w.arrays w.values) cell
    final_value cell shared =
        ap value_of (ap (λ (l : List ℕ). get_or l (word_number w cell) 0) end.words_are ∙ (has_word w sound end.state end.reached cell shared).word)
        ∙ (to_z-of_z w64 (at_cell end.state.cells cell) (cell_fits w sound end.state end.reached cell shared.small)
        ∙ ∥∥₁_elim sound (ℤ_set _ _) (λ s. ap (λ (x : List (List ℤ)). at_cell x cell) (law w end.state s.fit end.reached end.ended)))

    final_long : (k : ℕ) → length (list_of (sequential w.nest w.arrays w.values) k) ≡ length (list_of w.values k)
    final_long k = ∥∥₁_elim sound (ℕ_set _ _)
        (λ s. ap (λ (x : List (List ℤ)). length (list_of x k)) (sym (law w end.state s.fit end.reached end.ended)) ∙ lists_long w sound end.state end.reached k)

    same_long : (array : ArrayId) (x : List (List ℤ)) → HaveLengths w.nest.decls w.arrays x → is_target w.nest array ≡ true → length (list_of x array.0) ≡ length (list_of w.values array.0)
    same_long array x room e = ∥∥₁_elim sound (ℕ_set _ _)
        (λ s. let of_data = target_is_data w.nest array s.fit.is_nest e in room.of_data array of_data ∙ sym (s.fit.lengths.of_data array of_data))

    pub is_closed : (x y : List (List ℤ)) → HaveLengths w.nest.decls w.arrays x → CopiedTo w words 64 x y → IsClosed w x y
    is_closed x y room h = record {
      written = λ array e.
          let small : array.0 < 64 = ∥∥₁_elim sound le_prop (λ s. target_small w s.fit (record { array = array; at = 0 }) e) in
          let a = h.longs array.0 in
          let b = same_long array x room e in
          let c = final_long array.0 in
          ext_get_or (pos 0) (list_of y array.0) (list_of (sequential w.nest w.arrays w.values) array.0) (omega arith)
          (λ at l.
          let cell : Cell = record { array = array; at = at } in
          let inside : at < length (list_of w.values array.0) = omega arith in
          h.written cell small e inside ∙ final_value cell (record { inside = inside; target = e; small = small }));
      others = h.others;
      lists = h.lists;
    }
