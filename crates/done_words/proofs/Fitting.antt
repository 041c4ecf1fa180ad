-- Each word of each reached state fits 64 bits.
use Rattle.std.proofs.Common.{w64, ◌≡◌, ℕ, zero, suc, ◌<◌, ℤ, pos, negsuc, Bool, true, false, if◌then◌else◌, List, [], ◌∷◌, ◌++◌, length, get_or, set, map, take, drop, replicate, refl, sym, ap, subst, inl, inr, arith}
use Rattle.std.specs.Prelude.{FitsSigned, int_lt, int_div}
use Rattle.std.proofs.lemmas.Int.{SFits-int_wrap}
use Rattle.wave_base.specs.declared.types.Cell.{Cell}
use Rattle.wave_base.specs.Word.{wrapped_quotient}
use Rattle.wave_base.specs.Words.{word_at, word_written}
use Rattle.loop_core.specs.declared.nest.Nest.{Nest}
use Rattle.loop_core.specs.declared.nest.Op.{Op}
use Rattle.loop_core.specs.declared.nest.Op.TheVariants.{Add, Sub, Mul, Quot, Min, Max}
use Rattle.loop_core.specs.declared.place.Place.{Place}
use Rattle.loop_core.specs.declared.effect.Effect.{Effect}
use Rattle.loop_core.specs.declared.effect.Effect.TheVariants.{Sets, Keeps}
use Rattle.loop_core.specs.Lists.{Lists, list_of, entry}
use Rattle.loop_core.specs.Instances.{Formula, Number, Load, Own, Apply, Instance, instances}
use Rattle.loop_core.specs.Values.{operated, reads, value_of}
use Rattle.loop_core.specs.Sequence.{word_of, words_read, formula_value, State, done, after_one, after_all, fresh, after_rows, before}
use Rattle.loop_core.specs.IsNest.{IsNest}
use Rattle.core_cells.specs.Cells.{at_cell}
use Rattle.core_law.specs.Machine as law
use Rattle.core_law.specs.Machine.{Reached}
use Rattle.core_law.proofs.Reached.{holds}
use Rattle.core_nest.specs.NestLaws.{HoldsAsBefore}
use Rattle.core_nest.proofs.Each.{Each, each_take}
use Rattle.core_nest.proofs.Nests.{fits}
use Rattle.core_nest.proofs.Order.{beginning}
use Rattle.core_machine.specs.declared.work.Work.{Work}
use Rattle.core_machine.specs.FitWork.{plain}
use Rattle.done_words.specs.Sound.{IsSound}
use Rattle.done_words.proofs.Small.{IsSmall, IsSmallOne, small_instances}

zero_fits : FitsSigned w64 (pos 0)
zero_fits = record { sfits = omega arith }

quotient_fits : (x y : ℤ) → FitsSigned w64 (wrapped_quotient x y)
quotient_fits x (pos zero) = zero_fits
quotient_fits x (pos (suc b)) = SFits-int_wrap w64 (int_div x (pos (suc b)))
quotient_fits x (negsuc b) = SFits-int_wrap w64 (int_div x (negsuc b))

either_fits : (b : Bool) (x y : ℤ) → FitsSigned w64 x → FitsSigned w64 y → FitsSigned w64 (if b then y else x)
either_fits true x y h k = k
either_fits false x y h k = h

operated_fits : (op : Op) (x y : ℤ) → FitsSigned w64 x → FitsSigned w64 y → FitsSigned w64 (operated op x y)
operated_fits Add x y h k = SFits-int_wrap w64 _
operated_fits Sub x y h k = SFits-int_wrap w64 _
operated_fits Mul x y h k = SFits-int_wrap w64 _
operated_fits Quot x y h k = quotient_fits x y
operated_fits Min x y h k = either_fits (int_lt y x) x y h k
operated_fits Max x y h k = either_fits (int_lt x y) x y h k

abbrev AllFit : List ℤ → Type 0
AllFit ws = (k : ℕ) → FitsSigned w64 (get_or ws k (pos 0))

none_fit : AllFit []
none_fit k = zero_fits

one_fits : (w : ℤ) (ws : List ℤ) → FitsSigned w64 w → AllFit ws → AllFit (w ∷ ws)
one_fits w ws h all zero = h
one_fits w ws h all (suc k) = all k

rest_fit : (n : ℕ) (ws : List ℤ) → AllFit ws → AllFit (drop n ws)
rest_fit zero ws all k = all k
rest_fit (suc n) [] all k = zero_fits
rest_fit (suc n) (w ∷ ws) all k = rest_fit n ws (λ j. all (suc j)) k

value_fits : (f : Formula) (locals words : List ℤ) → IsSmall f → AllFit locals → AllFit words → FitsSigned w64 (value_of f locals words)
value_fits (Number value) locals words small l all = small
value_fits (Load array at) locals words small l all = all 0
value_fits (Own local) locals words small l all = l local
value_fits (Apply op left right) locals words small l all =
    operated_fits op (value_of left locals words) (value_of right locals (drop (length (reads left)) words))
    (value_fits left locals words small.0 l all)
    (value_fits right locals (drop (length (reads left)) words) small.1 l (rest_fit (length (reads left)) words all))

-- the words of the first 64 lists
abbrev ListsFit : List (List ℤ) → Type 0
ListsFit y = (array at : ℕ) → array < 64 → FitsSigned w64 (get_or (get_or y array []) at (pos 0))

entry_fits : (y : List (List ℤ)) (array : ℕ) (at : ℤ) → ListsFit y → array < 64 → FitsSigned w64 (word_at (get_or y array []) at)
entry_fits y array (pos at) h l = h array at l
entry_fits y array (negsuc k) h l = zero_fits

append_fit : (xs ys : List ℤ) → AllFit xs → AllFit ys → AllFit (xs ++ ys)
append_fit [] ys h k = k
append_fit (x ∷ xs) ys h k = one_fits x (xs ++ ys) (h 0) (append_fit xs ys (λ n. h (suc n)) k)

map_append : (y : List (List ℤ)) (ps qs : List Place) → map (word_of y) (ps ++ qs) ≡ map (word_of y) ps ++ map (word_of y) qs
map_append y [] qs = refl
map_append y (p ∷ ps) qs = ap (λ (l : List ℤ). word_of y p ∷ l) (map_append y ps qs)

reads_fit : (y : List (List ℤ)) (f : Formula) → ListsFit y → IsSmall f → AllFit (words_read y f)
reads_fit y (Number value) h small = none_fit
reads_fit y (Load array at) h small = one_fits (entry y array at) [] (entry_fits y array.0 at h small) none_fit
reads_fit y (Own local) h small = none_fit
reads_fit y (Apply op left right) h small =
    subst AllFit (sym (map_append y (reads left) (reads right)))
    (append_fit (words_read y left) (words_read y right) (reads_fit y left h small.0) (reads_fit y right h small.1))

set_keeps : {A : Type 0} (P : A → Type 0) (xs : List A) (a b : ℕ) (v d : A) → (a ≡ b → P v) → P (get_or xs b d) → P (get_or (set xs a v) b d)
set_keeps P [] a b v d h k = k
set_keeps P (x ∷ xs) zero zero v d h k = h refl
set_keeps P (x ∷ xs) zero (suc b) v d h k = k
set_keeps P (x ∷ xs) (suc a) zero v d h k = k
set_keeps P (x ∷ xs) (suc a) (suc b) v d h k = set_keeps P xs a b v d (λ e. h (ap suc e)) k

word_fits : (list : List ℤ) (at : ℤ) (v : ℤ) → FitsSigned w64 v → AllFit list → AllFit (word_written list at v)
word_fits list (pos at) v h all k = set_keeps (FitsSigned w64) list at k v (pos 0) (λ e. h) (all k)
word_fits list (negsuc n) v h all k = all k

record Fit (y : State) : Type 0 where
  pub lists : ListsFit y.lists
  pub locals : AllFit y.locals

done_fits : (e : Effect) (v : ℤ) (y : State) → FitsSigned w64 v → Fit y → Fit (done e v y)
done_fits (Sets p) v y h fit = record {
  lists = λ array at l. set_keeps (λ (list : List ℤ). FitsSigned w64 (get_or list at (pos 0))) y.lists p.array.0 array (word_written (list_of y.lists p.array) p.at v) []
      (λ e. word_fits (list_of y.lists p.array) p.at v h (λ k. fit.lists p.array.0 k (let e' : p.array.0 ≡ array = e in omega arith)) at)
      (fit.lists array at l);
  locals = fit.locals;
}
done_fits (Keeps local) v y h fit = record {
  lists = fit.lists;
  locals = λ k. set_keeps (FitsSigned w64) y.locals local k v (pos 0) (λ e. h) (fit.locals k);
}

all_fit : (ss : List Instance) (y : State) → Each IsSmallOne ss → Fit y → Fit (after_all ss y)
all_fit [] y small fit = fit
all_fit (s ∷ ss) y small fit =
    all_fit ss (after_one s y) small.1
    (done_fits s.effect (formula_value y.lists y.locals s.value) y (value_fits s.value y.locals (words_read y.lists s.value) small.0 fit.locals (reads_fit y.lists s.value fit.lists small.0)) fit)

zeros_fit : (n : ℕ) → AllFit (replicate n (pos 0))
zeros_fit zero = none_fit
zeros_fit (suc n) = one_fits (pos 0) (replicate n (pos 0)) zero_fits (zeros_fit n)

fresh_fits : (y : List (List ℤ)) → ListsFit y → Fit (fresh y)
fresh_fits y h = record { lists = h; locals = zeros_fit 16 }

module _ (nest : Nest) (a : Lists) (x : List (List ℤ)) (is_nest : IsNest nest) (starts : ListsFit x) where
  rows_fit : (i : ℕ) → ListsFit (after_rows nest a x i)
  rows_fit zero = starts
  rows_fit (suc i) = (all_fit (instances a nest (pos i)) (fresh (after_rows nest a x i)) (small_instances nest a (pos i) is_nest) (fresh_fits (after_rows nest a x i) (rows_fit i))).lists

  before_fits : (i k : ℕ) → ListsFit (before nest a x i k).lists
  before_fits i k = (all_fit (take k (instances a nest (pos i))) (fresh (after_rows nest a x i)) (each_take IsSmallOne k (instances a nest (pos i)) (small_instances nest a (pos i) is_nest)) (fresh_fits (after_rows nest a x i) (rows_fit i))).lists

starts_fit : (w : Work) → IsSound w → ListsFit w.values
starts_fit w s array at l = s.words (record { array = record { 0 = array }; at = at }) l

pub cells_fit : (w : Work) (c : law.State) (cell : Cell) → IsSound w → Reached (plain w) c → cell.array.0 < 64 → FitsSigned w64 (at_cell c.cells cell)
cells_fit w c cell s r l =
    let fit = fits w.nest w.arrays w.values w.sched.workers s.fit in
    let b = beginning w.nest w.arrays w.values w.sched.workers s.fit c cell ((holds (plain w) fit c r).cut cell) in
    by b.holds
  where
    by : {m : ℕ} → HoldsAsBefore w.nest w.arrays w.values w.sched.workers c cell m → FitsSigned w64 (at_cell c.cells cell)
    by (inl t) = subst (FitsSigned w64) (sym t.1) (rows_fit w.nest w.arrays w.values s.fit.is_nest (starts_fit w s) w.arrays.n cell.array.0 cell.at l)
    by (inr t) = subst (FitsSigned w64) (sym t.4) (before_fits w.nest w.arrays w.values s.fit.is_nest (starts_fit w s) t.0 t.1 cell.array.0 cell.at l)
