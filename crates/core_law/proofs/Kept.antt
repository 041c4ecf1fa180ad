-- What holds at the start and is kept by each event.
use Rattle.std.proofs.Common.{◌≡◌, ℕ, zero, suc, ◌+◌, ◌<◌, ◌≤◌, Bool, true, false, List, [], ◌∷◌, ◌++◌, length, get_or, map, take, Some, sym, refl, ap, ◌∙◌, ⊎_elim, arith}
use Rattle.std.proofs.lemmas.List.{get_or_past, map-append}
use Rattle.std.proofs.lemmas.Bool.{cases_lt}
use Rattle.std.specs.List.{flat_map}
use Rattle.std.specs.Prelude.{ℤ, slice_get}
use Rattle.wave_base.specs.declared.types.Cell.{Cell}
use Rattle.sched_types.specs.declared.sched.Task.{Task}
use Rattle.core_law.specs.Works.{Work}
use Rattle.core_law.specs.Sequential.{kept, word_before}
use Rattle.core_law.specs.Scripts.{Action, look, read, write, finish, task_actions, script, next}
use Rattle.core_law.specs.Machine.{State, stand_of, place}
use Rattle.core_law.specs.Standing.{finishes, finished}
use Rattle.core_law.specs.Registers.{reads_after}
use Rattle.core_law.specs.Prefixes.{IsPrefix}
use Rattle.core_cells.proofs.Places.{none_is_some}
use Rattle.core_law.proofs.Laid.{recalled, recalled_at}
use Rattle.core_cells.specs.Cells.{lengths}

-- lists of actions

pub finishes_append : (xs ys : List Action) → finishes (xs ++ ys) ≡ finishes xs + finishes ys
finishes_append [] ys = omega arith
finishes_append (finish ∷ xs) ys = let h = finishes_append xs ys in omega arith
finishes_append (look f n ∷ xs) ys = finishes_append xs ys
finishes_append (read b g x ∷ xs) ys = finishes_append xs ys
finishes_append (write b g x ∷ xs) ys = finishes_append xs ys

pub recalled_append : (w : Work) (xs ys : List Action) (rs : List ℤ) → recalled w (xs ++ ys) rs ≡ recalled w ys (recalled w xs rs)
recalled_append w [] ys rs = refl
recalled_append w (finish ∷ xs) ys rs = recalled_append w xs ys []
recalled_append w (look f n ∷ xs) ys rs = recalled_append w xs ys rs
recalled_append w (read b g x ∷ xs) ys rs = recalled_append w xs ys (kept b rs ++ word_before w g x ∷ [])
recalled_append w (write b g x ∷ xs) ys rs = recalled_append w xs ys (kept b rs)

finishes_rise : (xs : List Action) (p q : ℕ) → p ≤ q → finishes (take p xs) ≤ finishes (take q xs)
finishes_rise xs zero q l = omega arith
finishes_rise [] (suc p) q l = omega arith
finishes_rise (x ∷ xs) (suc p) zero l = absurd (omega arith)
finishes_rise (finish ∷ xs) (suc p) (suc q) l = let h = finishes_rise xs p q (omega arith) in omega arith
finishes_rise (look f n ∷ xs) (suc p) (suc q) l = finishes_rise xs p q (omega arith)
finishes_rise (read b g x ∷ xs) (suc p) (suc q) l = finishes_rise xs p q (omega arith)
finishes_rise (write b g x ∷ xs) (suc p) (suc q) l = finishes_rise xs p q (omega arith)

pub finished_rises : (w : Work) (k p q : ℕ) → p ≤ q → finished w k p ≤ finished w k q
finished_rises w k p q l = finishes_rise (script w k) p q l

-- fewer tasks are finished at an earlier place
pub earlier : (w : Work) (k p q : ℕ) → finished w k p < finished w k q → p < q
earlier w k p q l = ⊎_elim (λ lt. lt) (λ (le : q ≤ p). let h = finished_rises w k q p le in absurd (omega arith)) (cases_lt p q)

pub is_worker : (w : Work) (k p : ℕ) (a : Action) → next w k p ≡ Some a → k < length w.workers
is_worker w k p a e = ⊎_elim (λ l. l)
    (λ (past : length w.workers ≤ k). absurd (none_is_some a (sym (ap (λ (ts : List Task). slice_get (flat_map (task_actions w) ts) p) (get_or_past w.workers k [] past)) ∙ e)))
    (cases_lt k (length w.workers))

-- what is recalled is the sequential values of the reads of the row
abbrev pub value_of : Work → ℕ × Cell → ℤ
value_of w r = word_before w r.0 r.1

kept_values : (w : Work) (b : Bool) (rs : List (ℕ × Cell)) → kept b (map (value_of w) rs) ≡ map (value_of w) (kept b rs)
kept_values w true rs = refl
kept_values w false rs = refl

pub recalled_is : (w : Work) (xs : List Action) (rs : List (ℕ × Cell)) → recalled w xs (map (value_of w) rs) ≡ map (value_of w) (reads_after xs rs)
recalled_is w [] rs = refl
recalled_is w (finish ∷ xs) rs = recalled_is w xs []
recalled_is w (look f n ∷ xs) rs = recalled_is w xs rs
recalled_is w (read b g x ∷ xs) rs =
    ap (recalled w xs) (ap (λ (l : List ℤ). l ++ word_before w g x ∷ []) (kept_values w b rs) ∙ sym (map-append (value_of w) (kept b rs) ((g, x) ∷ [])))
    ∙ recalled_is w xs (kept b rs ++ (g, x) ∷ [])
recalled_is w (write b g x ∷ xs) rs = ap (recalled w xs) (kept_values w b rs) ∙ recalled_is w xs (kept b rs)

-- the invariant

pub record Inv (w : Work) (c : State) : Type 0 where
  pub cells_shape : lengths c.cells ≡ lengths w.start
  pub stands_long : length c.stands ≡ length w.workers
  pub counts_long : length c.counts ≡ length w.workers
  pub counted : (k : ℕ) → get_or c.counts k 0 ≡ finished w k (place c k)
  pub looked : (k q f n : ℕ) → next w k q ≡ Some (look f n) → q < place c k → n ≤ get_or c.counts f 0
  pub held : (k : ℕ) → (stand_of c k).registers ≡ recalled_at w k (place c k)
  pub cut : (x : Cell) → IsPrefix w c x
