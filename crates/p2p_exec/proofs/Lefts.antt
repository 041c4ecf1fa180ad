-- Each action made takes the first of those that are left.
use Rattle.std.proofs.Common.{◌≡◌, ℕ, zero, suc, ◌≤◌, ℤ, Bool, List, [], ◌∷◌, ◌++◌, length, drop, Option, Some, refl, sym, subst, ◌∙◌, arith}
use Rattle.std.specs.Prelude.{slice_get}
use Rattle.wave_base.specs.declared.types.Cell.{Cell}
use Rattle.core_law.specs.Sequential.{kept}
use Rattle.core_law.specs.Scripts.{Action, read, write, finish, script, next}
use Rattle.core_machine.specs.declared.work.Work.{Work}
use Rattle.core_machine.specs.FitWork.{plain}
use Rattle.done_words.specs.declared.view.Doing.{Doing}
use Rattle.done_words.specs.declared.view.View.{View}
use Rattle.done_words.specs.declared.view.View.TheVariants.{Spent, Main, Worker}
use Rattle.done_words.specs.Views.{registers_of, next_of, read_by, write_by, after_read, after_write, after_finish}
use Rattle.p2p_exec.specs.Left.{IsLeft}

-- what stands first among those from a place on

pub first_left : {A : Type 0} (l : List A) (p : ℕ) (x : A) (more : List A) → drop p l ≡ x ∷ more → slice_get l p ≡ Some x
first_left [] zero x more e = absurd (cc)
first_left [] (suc p) x more e = absurd (cc)
first_left (y ∷ l) zero x more e = cc
first_left (y ∷ l) (suc p) x more e = first_left l p x more e

pub rest_left : {A : Type 0} (l : List A) (p : ℕ) (x : A) (more : List A) → drop p l ≡ x ∷ more → drop (suc p) l ≡ more
rest_left [] zero x more e = absurd (cc)
rest_left [] (suc p) x more e = absurd (cc)
rest_left (y ∷ l) zero x more e = cc
rest_left (y ∷ l) (suc p) x more e = rest_left l p x more e

pub more_left : {A : Type 0} (l : List A) (p : ℕ) (x : A) (more : List A) → drop p l ≡ x ∷ more → suc p ≤ length l
more_left [] zero x more e = absurd (cc)
more_left [] (suc p) x more e = absurd (cc)
more_left (y ∷ l) zero x more e = omega arith
more_left (y ∷ l) (suc p) x more e = let h = more_left l p x more e in omega arith

module _ (w : Work) (k : ℕ) where
  -- the next action is the first of those that are left
  pub next_left : (d : Doing) (a : Action) (more : List Action) → IsLeft w k (Worker d) (a ∷ more) → next_of d ≡ Some a
  next_left d a more h =
      let n = h.number in
      let here : d.worker ≡ k = omega arith in
      (λ t. next (plain (h.about t)) (here t) d.place) ∙ first_left (script (plain w) k) d.place a more h.left

  -- the view of a seat that goes on by one place
  goes : (d : Doing) (registers : List ℤ) (a : Action) (more : List Action) → IsLeft w k (Worker d) (a ∷ more) → IsLeft w k (Worker (record d { place = suc d.place; registers = registers })) more
  goes d registers a more h = record {
    about = h.about;
    number = h.number;
    left = rest_left (script (plain w) k) d.place a more h.left;
    within = more_left (script (plain w) k) d.place a more h.left;
  }

  pub finish_left : (v : View) (more : List Action) → IsLeft w k v (finish ∷ more) → IsLeft w k (after_finish v) more
  finish_left Spent more h = absurd h.about
  finish_left (Main m) more h = absurd (let n = h.number in omega arith)
  finish_left (Worker d) more h = goes d [] finish more h

  pub read_left : (v : View) (n : ℤ) (begins : Bool) (g : ℕ) (cell : Cell) (more : List Action) → IsLeft w k v (read begins g cell ∷ more)
      → IsLeft w k (after_read v n) more × (registers_of (after_read v n) ≡ kept begins (registers_of v) ++ n ∷ [])
  read_left Spent n begins g cell more h = absurd h.about
  read_left (Main m) n begins g cell more h = absurd (let n = h.number in omega arith)
  read_left (Worker d) n begins g cell more h =
      subst (λ (a : Option Action). IsLeft w k (read_by d n a) more × (registers_of (read_by d n a) ≡ kept begins d.registers ++ n ∷ []))
      (sym (next_left d (read begins g cell) more h))
      (goes d (kept begins d.registers ++ n ∷ []) (read begins g cell) more h, refl)

  pub write_left : (v : View) (begins : Bool) (g : ℕ) (cell : Cell) (more : List Action) → IsLeft w k v (write begins g cell ∷ more)
      → IsLeft w k (after_write v) more × (registers_of (after_write v) ≡ kept begins (registers_of v))
  write_left Spent begins g cell more h = absurd h.about
  write_left (Main m) begins g cell more h = absurd (let n = h.number in omega arith)
  write_left (Worker d) begins g cell more h =
      subst (λ (a : Option Action). IsLeft w k (write_by d a) more × (registers_of (write_by d a) ≡ kept begins d.registers))
      (sym (next_left d (write begins g cell) more h))
      (goes d (kept begins d.registers) (write begins g cell) more h, refl)
