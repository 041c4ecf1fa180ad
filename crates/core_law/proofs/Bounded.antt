-- What a reached state keeps inside its bounds.
use Rattle.std.proofs.Common.{ℕ, zero, suc, ◌≤◌, List, [], ◌∷◌, length, get_or, take, sym, refl, ap, ◌∙◌, arith}
use Rattle.std.specs.Prelude.{ℤ}
use Rattle.std.proofs.lemmas.List.{length-map}
use Rattle.core_law.specs.Works.{Work}
use Rattle.core_law.specs.Fit.{IsFit}
use Rattle.core_law.specs.Scripts.{Action, look, read, write, finish, script}
use Rattle.core_law.specs.Machine.{State, Reached, place}
use Rattle.core_law.specs.Standing.{finishes, finished}
use Rattle.core_law.specs.Bounds.{HasShape, HasActions}
use Rattle.core_cells.proofs.Places.{take_next}
use Rattle.core_cells.proofs.Stores.{long_at}
use Rattle.core_law.proofs.Laid.{task_at}
use Rattle.core_law.proofs.Kept.{is_worker, finishes_append}
use Rattle.core_law.proofs.Laying.{laid}
use Rattle.core_law.proofs.Reached.{holds}
use Rattle.core_law.proofs.Turns.{places_bounded}

finishes_few : (xs : List Action) (p : ℕ) → finishes (take p xs) ≤ p
finishes_few xs zero = omega arith
finishes_few [] (suc p) = omega arith
finishes_few (finish ∷ xs) (suc p) = let h = finishes_few xs p in omega arith
finishes_few (look f n ∷ xs) (suc p) = let h = finishes_few xs p in omega arith
finishes_few (read b g x ∷ xs) (suc p) = let h = finishes_few xs p in omega arith
finishes_few (write b g x ∷ xs) (suc p) = let h = finishes_few xs p in omega arith

pub has_actions : (w : Work) (k p : ℕ) → IsFit w → HasActions w k p
has_actions w k p fit = let l = laid w fit in record {
  worker = λ a is. is_worker w k p a is;
  at_look = λ f n is. let t = l.waits k p f n is in fit.fits.waits_stand (task_at k (finished w k p)) t.0 (record { worker = f; count = n }) t.1 t.2;
  at_read = λ g b x is. (l.known k p g (_, is, refl), l.reads k p g b x is);
  at_write = λ g b x is. (l.known k p g (_, is, refl), l.writes k p g b x is);
}

pub has_shape : (w : Work) (c : State) → IsFit w → Reached w c → HasShape w c
has_shape w c fit r = let inv = holds w fit c r in let l = laid w fit in record {
  counts = inv.counts_long;
  stands = inv.stands_long;
  cells = sym (length-map c.cells (λ (x : List ℤ). length x)) ∙ (ap (λ (s : List ℕ). length s) inv.cells_shape ∙ length-map w.start (λ (x : List ℤ). length x));
  lists = λ a. long_at c.cells a ∙ (ap (λ (s : List ℕ). get_or s a 0) inv.cells_shape ∙ sym (long_at w.start a));
  places = places_bounded w c r;
  counts_below_places = λ k. let e = inv.counted k in let n = finishes_few (script w k) (place c k) in omega arith;
  counts_below_tasks = λ k. let e = inv.counted k in let n = l.few k (place c k) in omega arith;
  at_finish = λ k is. let e = inv.counted k in let n = l.few k (suc (place c k)) in
      let m = ap finishes (take_next (script w k) (place c k) finish is) ∙ finishes_append (take (place c k) (script w k)) (finish ∷ []) in omega arith;
}
