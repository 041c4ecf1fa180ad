-- Reads made one after another.
use Rattle.std.proofs.Common.{◌≡◌, ℕ, suc, ◌+◌, ℤ, pos, Bool, true, false, if◌then◌else◌, List, [], ◌∷◌, ◌++◌, length, get_or, map, drop, refl, sym, ap, subst, ◌∙◌, append_assoc, arith}
use Rattle.std.specs.Prelude.{slice_get}
use Rattle.std.specs.List.{filter}
use Rattle.std.proofs.lemmas.List.{append-nil, length-append, map-append, drop_at}
use Rattle.wave_base.specs.declared.types.ArrayId.{ArrayId}
use Rattle.wave_base.specs.declared.types.Cell.{Cell}
use Rattle.loop_core.specs.declared.nest.Nest.{Nest}
use Rattle.loop_core.specs.declared.nest.Op.{Op}
use Rattle.loop_core.specs.declared.place.Place.{Place}
use Rattle.loop_core.specs.Lists.{entry}
use Rattle.loop_core.specs.Shape.{is_target}
use Rattle.loop_core.specs.Instances.{Formula, Load, Apply}
use Rattle.loop_core.specs.Values.{operated, reads, value_of}
use Rattle.loop_core.specs.Sequence.{word_of}
use Rattle.loop_core.specs.Registers.{shared_reads, words_found, register_value}
use Rattle.loop_core.proofs.Formulas.{enough}
use Rattle.core_cells.proofs.Places.{at_left, at_right}
use Rattle.core_law.specs.Sequential.{kept}
use Rattle.core_law.specs.Scripts.{Action, read}
use Rattle.core_nest.specs.Nested.{cell_of}
use Rattle.core_value.specs.Taken.{flagged}
use Rattle.core_machine.specs.declared.work.Work.{Work}
use Rattle.done_words.specs.declared.view.View.{View}
use Rattle.done_words.specs.declared.view.View.TheVariants.{Spent, Main, Worker}
use Rattle.done_words.specs.Views as views
use Rattle.done_words.specs.Views.{registers_of, after_read}
use Rattle.done_words.specs.Seats.{view, work_of, IsOn}
use Rattle.p2p_exec.specs.declared.run.Run.{Run}
use Rattle.p2p_exec.specs.Left.{IsLeft}
use Rattle.p2p_exec.specs.Rows.{to_come, IsOf, IsSameRun}
use Rattle.p2p_exec.specs.Reading.{reads_of, still, IsCell, AreCells, MayRead, Reads}
use Rattle.p2p_exec.proofs.Lefts.{next_left, read_left}

pub filter_append : {A : Type 0} (q : A → Bool) (xs ys : List A) → filter q (xs ++ ys) ≡ filter q xs ++ filter q ys
filter_append q [] ys = refl
filter_append q (x ∷ xs) ys = by (q x) (filter_append q xs ys)
  where
    by : (b : Bool) → filter q (xs ++ ys) ≡ filter q xs ++ filter q ys → (if b then x ∷ filter q (xs ++ ys) else filter q (xs ++ ys)) ≡ (if b then x ∷ filter q xs else filter q xs) ++ filter q ys
    by true h = ap (λ (l : List _). x ∷ l) h
    by false h = h

still_twice : {A : Type 0} (begins : Bool) (xs ys : List A) → still (still begins xs) ys ≡ still begins (xs ++ ys)
still_twice begins [] ys = refl
still_twice begins (x ∷ xs) [] = refl
still_twice begins (x ∷ xs) (y ∷ ys) = refl

-- the first read of a row says that it begins it, where it does
pub read_first : (begins : Bool) (g : ℕ) (cell : Cell) (more tail : List Action) → to_come begins (read false g cell ∷ more) tail ≡ read begins g cell ∷ (more ++ tail)
read_first true g cell more tail = refl
read_first false g cell more tail = refl

module _ (nest : Nest) (x : List (List ℤ)) where
  abbrev shared : List Place → List Place
  shared ps = filter (λ (p : Place). is_target nest p.array) ps

  abbrev found : List Place → List ℤ → List ℤ
  found = words_found nest x

  found_long : (ps : List Place) (registers : List ℤ) → length (found ps registers) ≡ length ps
  found_long [] registers = refl
  found_long (p ∷ ps) registers = by (is_target nest p.array) (found_long ps (drop 1 registers)) (found_long ps registers)
    where
      by : (b : Bool) → length (found ps (drop 1 registers)) ≡ length ps → length (found ps registers) ≡ length ps
          → length (if b then get_or registers 0 (pos 0) ∷ found ps (drop 1 registers) else word_of x p ∷ found ps registers) ≡ suc (length ps)
      by true h k = ap suc h
      by false h k = ap suc k

  -- what two lists of reads find, where the first takes its own words alone
  found_both : (ps qs : List Place) (a b : List ℤ) → length a ≡ length (shared ps) → found (ps ++ qs) (a ++ b) ≡ found ps a ++ found qs b
  found_both [] qs [] b e = refl
  found_both [] qs (z ∷ a) b e = absurd (omega arith)
  found_both (p ∷ ps) qs a b e = by (is_target nest p.array) a e (λ c h. found_both ps qs c b h)
    where
      by : (t : Bool) (a : List ℤ) → length a ≡ length (if t then p ∷ shared ps else shared ps) → ((c : List ℤ) → length c ≡ length (shared ps) → found (ps ++ qs) (c ++ b) ≡ found ps c ++ found qs b)
          → (if t then get_or (a ++ b) 0 (pos 0) ∷ found (ps ++ qs) (drop 1 (a ++ b)) else word_of x p ∷ found (ps ++ qs) (a ++ b))
          ≡ (if t then get_or a 0 (pos 0) ∷ found ps (drop 1 a) else word_of x p ∷ found ps a) ++ found qs b
      by true [] e h = absurd (omega arith)
      by true (z ∷ a) e h = ap (λ (l : List ℤ). z ∷ l) (h a (omega arith))
      by false a e h = ap (λ (l : List ℤ). word_of x p ∷ l) (h a e)

  -- the value of an operation is that of its sides over their own words
  pub sides : (locals : List ℤ) (op : Op) (f h : Formula) (a b : List ℤ) → length a ≡ length (shared_reads nest f)
      → register_value nest x locals (Apply op f h) (a ++ b) ≡ operated op (register_value nest x locals f a) (register_value nest x locals h b)
  sides locals op f h a b e =
      let l : List ℤ = found (reads f) a in
      let r : List ℤ = found (reads h) b in
      let long = found_long (reads f) a in
      let one = enough f locals l r long in
      let two = drop_at l r (length (reads f)) long in
      ap (value_of (Apply op f h) locals) (found_both (reads f) (reads h) a b e)
      ∙ (λ i. operated op (one i) (value_of h locals (two i)))

  pub shared_both : (op : Op) (f h : Formula) → shared_reads nest (Apply op f h) ≡ shared_reads nest f ++ shared_reads nest h
  shared_both op f h = filter_append (λ (p : Place). is_target nest p.array) (reads f) (reads h)

  pub reads_both : (g : ℕ) (op : Op) (f h : Formula) (more : List Action) → reads_of nest g (Apply op f h) ++ more ≡ reads_of nest g f ++ (reads_of nest g h ++ more)
  reads_both g op f h more =
      ap (λ (ps : List Place). map (read false g) (map cell_of ps) ++ more) (shared_both op f h)
      ∙ (ap (λ (cs : List Cell). map (read false g) cs ++ more) (map-append cell_of (shared_reads nest f) (shared_reads nest h))
      ∙ (ap (λ (l : List Action). l ++ more) (map-append (read false g) (map cell_of (shared_reads nest f)) (map cell_of (shared_reads nest h)))
      ∙ append_assoc (reads_of nest g f) (reads_of nest g h) more))

pub same_run : (x : Run) → IsSameRun x x
same_run x = record { seat = refl; board = refl; values = refl; written = refl }

pub then_same : (x y z : Run) → IsSameRun x y → IsSameRun y z → IsSameRun x z
then_same x y z a b = record { seat = b.seat ∙ a.seat; board = b.board ∙ a.board; values = b.values ∙ a.values; written = b.written ∙ a.written }

-- a run that stays on its board stays one over its work
pub of_same : (w : Work) (x y : Run) → IsSameRun x y → IsOn y.seat.now y.board.now → IsOf w x → IsOf w y
of_same w x y same on h = record {
  on = on;
  work = ap work_of same.board ∙ h.work;
  values = same.values ∙ h.values;
  written = ap flagged same.written ∙ h.written;
}

-- no read of a written array

pub none_read : (x : Run) (f : Formula) (word : ℤ) → ((w : Work) → IsOf w x → shared_reads w.nest f ≡ []) → ((w : Work) → IsOf w x → word ≡ register_value w.nest w.values x.locals f []) → Reads x f word x
none_read x f word none value = (
  same_run x,
  refl,
  λ w h. h,
  λ w k g begins more tail h cells left. let e = none w h in record {
    own = [];
    many = ap (λ (ps : List Place). length ps) (sym e);
    value = value w h;
    left = subst (λ (b : Bool). IsLeft w k (view x.seat.now) (to_come b more tail)) (ap (still begins) (sym e))
        (subst (λ (ps : List Place). IsLeft w k (view x.seat.now) (to_come begins (map (read false g) (map cell_of ps) ++ more) tail)) e left);
    registers = ap (λ (ps : List Place). kept (still begins ps) (registers_of (view x.seat.now))) e ∙ sym (append-nil (kept begins (registers_of (view x.seat.now))));
  },
)

abbrev place : ArrayId → ℤ → Place
place array at = record { array = array; at = at }

pub other_read : (x : Run) (array : ArrayId) (at word : ℤ) → flagged x.written.now array ≡ false → word ≡ entry x.values.now array at → Reads x (Load array at) word x
other_read x array at word unwritten e = none_read x (Load array at) word
    (λ w h. ap (λ (b : Bool). if b then place array at ∷ [] else []) (is w h))
    (λ w h. e ∙ (ap (λ (v : List (List ℤ)). entry v array at) h.values ∙ sym (ap (λ (b : Bool). get_or (if b then get_or [] 0 (pos 0) ∷ [] else word_of w.values (place array at) ∷ []) 0 (pos 0)) (is w h))))
  where
    is : (w : Work) → IsOf w x → is_target w.nest array ≡ false
    is w h = ap (λ (q : ArrayId → Bool). q array) (sym h.written) ∙ unwritten

-- a read of a written array

shared_is : (x : Run) (w : Work) (array : ArrayId) (at : ℤ) → flagged x.written.now array ≡ true → IsOf w x → shared_reads w.nest (Load array at) ≡ place array at ∷ []
shared_is x w array at yes' h = ap (λ (b : Bool). if b then place array at ∷ [] else []) (ap (λ (q : ArrayId → Bool). q array) (sym h.written) ∙ yes')

next_read : (w : Work) (k g : ℕ) (v : View) (begins : Bool) (cell : Cell) (more : List Action) → IsLeft w k v (read begins g cell ∷ more) → views.Reads v cell
next_read w k g Spent begins cell more left = absurd left.about
next_read w k g (Main m) begins cell more left = absurd (let n = left.number in omega arith)
next_read w k g (Worker d) begins cell more left = (begins, g, next_left w k d (read begins g cell) more left)

pub record MayLoad (x : Run) (array : ArrayId) (at : ℤ) : Type 0 where
  pub on : IsOn x.seat.now x.board.now
  pub cell : IsCell (place array at)
  pub next : views.Reads (view x.seat.now) (cell_of (place array at))

pub may_load : (x : Run) (array : ArrayId) (at : ℤ) → flagged x.written.now array ≡ true → MayRead x (Load array at) → MayLoad x array at
may_load x array at yes' (w, k, g, begins, more, tail, h, cells, left) =
    let e = shared_is x w array at yes' h in
    record {
      on = h.on;
      cell = cells 0 (place array at) (ap (λ (ps : List Place). slice_get ps 0) e);
      next = next_read w k g (view x.seat.now) begins (cell_of (place array at)) (more ++ tail)
          (subst (IsLeft w k (view x.seat.now)) (read_first begins g (cell_of (place array at)) more tail)
          (subst (λ (ps : List Place). IsLeft w k (view x.seat.now) (to_come begins (map (read false g) (map cell_of ps) ++ more) tail)) e left));
    }

pub one_read : (x y : Run) (array : ArrayId) (at word : ℤ) → flagged x.written.now array ≡ true → IsSameRun x y → y.locals ≡ x.locals → IsOn y.seat.now y.board.now
    → view y.seat.now ≡ after_read (view x.seat.now) word → Reads x (Load array at) word y
one_read x y array at word yes' same locals on goes = (
  same,
  locals,
  λ w h. of_same w x y same on h,
  λ w k g begins more tail h cells left.
      let e = shared_is x w array at yes' h in
      let cell : Cell = cell_of (place array at) in
      let first = subst (IsLeft w k (view x.seat.now)) (read_first begins g cell more tail)
      (subst (λ (ps : List Place). IsLeft w k (view x.seat.now) (to_come begins (map (read false g) (map cell_of ps) ++ more) tail)) e left) in
      let next = read_left w k (view x.seat.now) word begins g cell (more ++ tail) first in
      record {
        own = word ∷ [];
        many = ap (λ (ps : List Place). length ps) (sym e);
        value = sym (ap (λ (b : Bool). get_or (if b then word ∷ [] else word_of w.values (place array at) ∷ []) 0 (pos 0)) (ap (λ (q : ArrayId → Bool). q array) (sym h.written) ∙ yes'));
        left = subst (λ (b : Bool). IsLeft w k (view y.seat.now) (to_come b more tail)) (ap (still begins) (sym e))
            (subst (λ (v : View). IsLeft w k v (more ++ tail)) (sym goes) next.0);
        registers = ap (λ (ps : List Place). kept (still begins ps) (registers_of (view y.seat.now))) e
            ∙ (ap registers_of goes ∙ next.1);
      },
)

-- the reads of both sides of an operation

cells_left : (nest : Nest) (op : Op) (f h : Formula) → AreCells nest (Apply op f h) → AreCells nest f
cells_left nest op f h cells n p e = cells n p (ap (λ (ps : List Place). slice_get ps n) (shared_both nest [] op f h) ∙ at_left (shared_reads nest f) (shared_reads nest h) n p e)

cells_right : (nest : Nest) (op : Op) (f h : Formula) → AreCells nest (Apply op f h) → AreCells nest h
cells_right nest op f h cells n p e =
    let m : ℕ = length (shared_reads nest f) + n in
    cells m p (ap (λ (ps : List Place). slice_get ps m) (shared_both nest [] op f h) ∙ at_right (shared_reads nest f) (shared_reads nest h) m n p refl e)

left_both : (w : Work) (k g : ℕ) (v : View) (begins : Bool) (op : Op) (f h : Formula) (more tail : List Action) → IsLeft w k v (to_come begins (reads_of w.nest g (Apply op f h) ++ more) tail)
    → IsLeft w k v (to_come begins (reads_of w.nest g f ++ (reads_of w.nest g h ++ more)) tail)
left_both w k g v begins op f h more tail left = subst (λ (l : List Action). IsLeft w k v (to_come begins l tail)) (reads_both w.nest w.values g op f h more) left

pub may_left : (x : Run) (op : Op) (f h : Formula) → MayRead x (Apply op f h) → MayRead x f
may_left x op f h (w, k, g, begins, more, tail, of', cells, left) =
    (w, k, g, begins, reads_of w.nest g h ++ more, tail, of', cells_left w.nest op f h cells, left_both w k g (view x.seat.now) begins op f h more tail left)

pub may_right : (x y : Run) (op : Op) (f h : Formula) (u : ℤ) → MayRead x (Apply op f h) → Reads x f u y → MayRead y h
may_right x y op f h u (w, k, g, begins, more, tail, of', cells, left) (same, locals, stays, reads) =
    let done = reads w k g begins (reads_of w.nest g h ++ more) tail of' (cells_left w.nest op f h cells) (left_both w k g (view x.seat.now) begins op f h more tail left) in
    (w, k, g, still begins (shared_reads w.nest f), more, tail, stays w of', cells_right w.nest op f h cells, done.left)

pub both_read : (x y z : Run) (op : Op) (f h : Formula) (u v : ℤ) → Reads x f u y → Reads y h v z → Reads x (Apply op f h) (operated op u v) z
both_read x y z op f h u v (same, locals, stays, reads) (same', locals', stays', reads') = (
  then_same x y z same same',
  locals' ∙ locals,
  λ w o. stays' w (stays w o),
  λ w k g begins more tail o cells left.
      let one = reads w k g begins (reads_of w.nest g h ++ more) tail o (cells_left w.nest op f h cells) (left_both w k g (view x.seat.now) begins op f h more tail left) in
      let two = reads' w k g (still begins (shared_reads w.nest f)) more tail (stays w o) (cells_right w.nest op f h cells) one.left in
      let begun_is : still (still begins (shared_reads w.nest f)) (shared_reads w.nest h) ≡ still begins (shared_reads w.nest (Apply op f h)) =
      still_twice begins (shared_reads w.nest f) (shared_reads w.nest h) ∙ ap (still begins) (sym (shared_both w.nest w.values op f h)) in
      let value_v : v ≡ register_value w.nest w.values x.locals h two.own = two.value ∙ ap (λ (l : List ℤ). register_value w.nest w.values l h two.own) locals in
      record {
        own = one.own ++ two.own;
        many = (let a = length-append one.own two.own in
            let b = length-append (shared_reads w.nest f) (shared_reads w.nest h) in
            let c = ap (λ (ps : List Place). length ps) (shared_both w.nest w.values op f h) in
            let d = one.many in
            let e = two.many in
            omega arith);
        value = (λ i. operated op (one.value i) (value_v i)) ∙ sym (sides w.nest w.values x.locals op f h one.own two.own one.many);
        left = subst (λ (b : Bool). IsLeft w k (view z.seat.now) (to_come b more tail)) begun_is two.left;
        registers = ap (λ (b : Bool). kept b (registers_of (view z.seat.now))) (sym begun_is)
            ∙ (two.registers
            ∙ (ap (λ (l : List ℤ). l ++ two.own) one.registers
            ∙ append_assoc (kept begins (registers_of (view x.seat.now))) one.own two.own));
      },
)
