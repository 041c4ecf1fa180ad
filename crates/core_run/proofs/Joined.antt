-- The code's machine over the scripts of a work is the law's.
use Rattle.std.proofs.Common.{Some, ◌≡◌, ℕ, suc, ◌<◌, ℤ, Bool, true, false, cond, leb, Option, List, [], length, get_or, set, map, take, refl, sym, ap, ◌∙◌, subst, arith}
use Rattle.std.specs.Prelude.{slice_get}
use Rattle.std.proofs.lemmas.List.{length-append, length-map, length-take-le}
use Rattle.std.proofs.lemmas.Option.{slice_get_within}
use Rattle.wave_base.specs.declared.types.Cell.{Cell}
use Rattle.core_cells.specs.Cells.{at_cell, put}
use Rattle.core_cells.proofs.Places.{some_same}
use Rattle.core_law.specs.Works.{Work}
use Rattle.core_law.specs.Numbers.{instance_at}
use Rattle.core_law.specs.Sequential.{kept, word_before, read_before}
use Rattle.core_law.specs.Scripts.{read, write, Action as LawAction, next}
use Rattle.core_law.specs.Machine as law
use Rattle.core_law.specs.Machine.{Stand, stand, stand_of, place, acted, event, Reached}
use Rattle.core_law.specs.Registers.{RegistersRight}
use Rattle.core_law.specs.Bounds.{HasShape, HasActions}
use Rattle.core_run.specs.declared.action.Action.{Action}
use Rattle.core_book.specs.declared.book.Book.{Book}
use Rattle.core_book.specs.declared.book.How.{How}
use Rattle.core_run.specs.declared.machine.Core.{Core}
use Rattle.core_run.specs.declared.machine.Event.TheVariants.{Looked, Read as Found, Wrote}
use Rattle.core_run.specs.Plain.{did, told, HasRoom}
use Rattle.core_run.specs.Cores.{core_of, hows_of, next_of}
use Rattle.core_run.specs.Links.{Does, at_end, at_look, at_read, at_write, at_finish, IsOf}
use Rattle.core_run.specs.Orders.{looks_at, passed_at, looked_by, passed_by}

module _ (w : Work) (book : Book) (hows : List How) where
  did_is : (d : law.State) (k : ℕ) (t : Stand) (a : Option LawAction) (o : Option Action) → Does w book hows a o → did book hows k d t o ≡ acted w d k t a
  did_is d k t a o at_end = refl
  did_is d k t a o at_look = refl
  did_is d k t a o at_read = refl
  did_is d k t a o (at_write {b} {g} {x} {at} same) = λ i. record {
    counts = d.counts;
    cells = put d.cells x (sym (same.value (kept b t.registers)) i);
    stands = set d.stands k (stand (suc t.place) (kept b t.registers));
  }
  did_is d k t a o at_finish = refl

  looked_is : (d : law.State) (k : ℕ) (t : Stand) (a : Option LawAction) (o : Option Action) → Does w book hows a o → looked_by (told book hows k d t o) ≡ looks_at d a
  looked_is d k t a o at_end = refl
  looked_is d k t a o at_look = refl
  looked_is d k t a o at_read = refl
  looked_is d k t a o (at_write same) = refl
  looked_is d k t a o at_finish = refl

  tells : (s n : ℕ) (b : Bool) → passed_by (Looked s n b) ≡ cond b 1 0
  tells s n true = refl
  tells s n false = refl

  passes_is : (d : law.State) (k : ℕ) (t : Stand) (a : Option LawAction) (o : Option Action) → Does w book hows a o → passed_by (told book hows k d t o) ≡ passed_at d a
  passes_is d k t a o at_end = refl
  passes_is d k t a o (at_look {f} {n}) = tells (get_or d.counts f 0) n (leb n (get_or d.counts f 0))
  passes_is d k t a o at_read = refl
  passes_is d k t a o (at_write same) = refl
  passes_is d k t a o at_finish = refl

module _ (w : Work) (c : Core) (of : IsOf w c) where
  pub step_is : (k : ℕ) → did c.book (hows_of c k) k (core_of c) (stand_of (core_of c) k) (next_of c k) ≡ event w k (core_of c)
  step_is k = did_is w c.book (hows_of c k) (core_of c) k (stand_of (core_of c) k) (next w k (place (core_of c) k)) (next_of c k) (of.does k (place (core_of c) k))

  pub looks_is : (k : ℕ) → looked_by (told c.book (hows_of c k) k (core_of c) (stand_of (core_of c) k) (next_of c k)) ≡ looks_at (core_of c) (next w k (place (core_of c) k))
  looks_is k = looked_is w c.book (hows_of c k) (core_of c) k (stand_of (core_of c) k) (next w k (place (core_of c) k)) (next_of c k) (of.does k (place (core_of c) k))

  pub passed_is : (k : ℕ) → passed_by (told c.book (hows_of c k) k (core_of c) (stand_of (core_of c) k) (next_of c k)) ≡ passed_at (core_of c) (next w k (place (core_of c) k))
  passed_is k = passes_is w c.book (hows_of c k) (core_of c) k (stand_of (core_of c) k) (next w k (place (core_of c) k)) (next_of c k) (of.does k (place (core_of c) k))

  -- a reached state of a fit work has room for each event
  pub room_is : (k : ℕ) → k < length c.stands.stands → HasShape w (core_of c) → ((p : ℕ) → HasActions w k p) → RegistersRight w (core_of c) k
      → HasRoom c.book (hows_of c k) c.stands.room k (core_of c) (stand_of (core_of c) k) (next_of c k)
  room_is k l shape acts registers = by (next w k (place (core_of c) k)) (next_of c k) (of.does k (place (core_of c) k)) refl
    where
      by : (a : Option LawAction) (o : Option Action) → Does w c.book (hows_of c k) a o → next w k (place (core_of c) k) ≡ a → HasRoom c.book (hows_of c k) c.stands.room k (core_of c) (stand_of (core_of c) k) o
      by a o at_end is = tt
      by a o (at_look {f} {n}) is = let t = (acts (place (core_of c) k)).at_look f n is in let inside = t.0 in let m = shape.counts in omega arith
      by a o (at_read {b} {g} {x}) is = let t = registers.at_read g b x is in let e : ℕ = t.0 in let in_reads = slice_get_within (instance_at w g).reads e x t.1 in
          let known = ((acts (place (core_of c) k)).at_read g b x is).0 in let room = of.room g known in
          let long = ap (λ (z : List ℤ). length z) t.2 in let n = length-append (read_before w g) (map (word_before w g) (take e (instance_at w g).reads)) in
          let m = length-map (take e (instance_at w g).reads) (word_before w g) in let few = length-take-le e (instance_at w g).reads (omega arith) in
          let n' = length-append (read_before w g) (map (word_before w g) (instance_at w g).reads) in let m' = length-map (instance_at w g).reads (word_before w g) in omega arith
      by a o (at_write {b} {g} {x} {at} same) is = let e = registers.at_write g b x is in record { inside = same.inside; before = same.before; enough = same.enough (kept b (stand_of (core_of c) k).registers) (ap (λ (z : List ℤ). length z) e) }
      by a o at_finish is = let m = shape.counts in let n = shape.stands in (omega arith, shape.counts_below_places k)

  pub lengths : HasShape w (core_of c) → length c.scripts.items ≡ length c.stands.stands
  lengths shape = let n = shape.stands in let m = of.scripts in omega arith

  pub hows_long : HasShape w (core_of c) → length c.hows.items ≡ length c.stands.stands
  hows_long shape = let n = shape.stands in let m = of.hows in omega arith

-- at a read and at a write the answer is the law's
pub told_read : (w : Work) (book : Book) (hows : List How) (d : law.State) (k : ℕ) (t : Stand) (a : Option LawAction) (o : Option Action) (g : ℕ) (b : Bool) (x : Cell) → Does w book hows a o → a ≡ Some (read b g x)
    → told book hows k d t o ≡ Found x (at_cell d.cells x)
told_read w book hows d k t a o g b x at_end e = absurd (cc)
told_read w book hows d k t a o g b x at_look e = absurd (cc)
told_read w book hows d k t a o g b x (at_read {b = b'} {g = g'} {x = y}) e = let same : y ≡ x = same_cell b' b g' g y x e in ap (λ (z : Cell). Found z (at_cell d.cells z)) same
  where
    same_cell : (b b' : Bool) (g g' : ℕ) (x y : Cell) → Some (read b g x) ≡ Some (read b' g' y) → x ≡ y
    same_cell b b' g g' x y e = let z = some_same (read b g x) (read b' g' y) e in cc
told_read w book hows d k t a o g b x (at_write same) e = absurd (cc)
told_read w book hows d k t a o g b x at_finish e = absurd (cc)

pub told_write : (w : Work) (book : Book) (hows : List How) (d : law.State) (k : ℕ) (t : Stand) (a : Option LawAction) (o : Option Action) (g : ℕ) (b : Bool) (x : Cell) → Does w book hows a o → a ≡ Some (write b g x)
    → told book hows k d t o ≡ Wrote x ((instance_at w g).value (kept b t.registers))
told_write w book hows d k t a o g b x at_end e = absurd (cc)
told_write w book hows d k t a o g b x at_look e = absurd (cc)
told_write w book hows d k t a o g b x at_read e = absurd (cc)
told_write w book hows d k t a o g b x (at_write {b = b'} {g = g'} {x = y} {at} same) e = let z = some_same (write b' g' y) (write b g x) e in
    ap (λ (v : ℤ). Wrote y v) (sym (same.value (kept b' t.registers)))
    ∙ (λ i. Wrote (same_cell b' b g' g y x z i) ((instance_at w (same_instance b' b g' g y x z i)).value (kept (same_mark b' b g' g y x z i) t.registers)))
  where
    same_cell : (b b' : Bool) (g g' : ℕ) (x y : Cell) → write b g x ≡ write b' g' y → x ≡ y
    same_cell b b' g g' x y e = cc

    same_instance : (b b' : Bool) (g g' : ℕ) (x y : Cell) → write b g x ≡ write b' g' y → g ≡ g'
    same_instance b b' g g' x y e = cc

    same_mark : (b b' : Bool) (g g' : ℕ) (x y : Cell) → write b g x ≡ write b' g' y → b ≡ b'
    same_mark b b' g g' x y e = cc
told_write w book hows d k t a o g b x at_finish e = absurd (cc)

pub of_same : (w : Work) (c c' : Core) → c'.scripts ≡ c.scripts → c'.book ≡ c.book → c'.hows ≡ c.hows → c'.stands.room ≡ c.stands.room → IsOf w c → IsOf w c'
of_same w c c' e b h r of = let items = ap (λ (v : _). v.items) e in let instances = ap (λ (v : _). v.items) h in record {
  does = λ k p. subst (λ (z : Book × List (List Action) × List (List How)). Does w z.0 (get_or z.2 k []) (next w k p) (slice_get (get_or z.1 k []) p)) (λ i. (sym b i, sym items i, sym instances i)) (of.does k p);
  room = λ g l. let h = of.room g l in omega arith;
  scripts = ap (λ (l : List (List Action)). length l) items ∙ of.scripts;
  hows = ap (λ (l : List (List How)). length l) instances ∙ of.hows;
}
