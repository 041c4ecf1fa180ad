-- The tasks of a schedule are those that were handed in, with the waits of their numbers.
use Rattle.std.proofs.Common.{◌≡◌, ℕ, suc, zero, ◌+◌, ◌∙◌, List, [], ◌∷◌, Some, length, get_or, map, arith, refl, ap, sym}
use Rattle.std.specs.List.{slice_get}
use Rattle.std.proofs.lemmas.Option.{same_Some}
use Rattle.wave_base.specs.declared.types.RowId.{RowId}
use Rattle.sched_types.specs.declared.sched.Task.{Task}
use Rattle.sched_types.specs.declared.sched.RowTask.{RowTask}
use Rattle.wait_sparsify.specs.Attached.{waits_for, with_waits, attached_list, attached}
use Rattle.wait_sparsify.proofs.Numbering.{number}

module _ (owners places : List ℕ) (kept : List (List RowId)) where
  -- a task with the waits of a number
  abbrev pub made : ℕ → RowTask → Task
  made number t = with_waits (waits_for owners places (get_or kept number [])) t

  list-at : (first : ℕ) (tasks : List RowTask) (at : ℕ) (task : Task) → slice_get (attached_list owners places kept first tasks) at ≡ Some task → (t : RowTask) × (slice_get tasks at ≡ Some t) × (task ≡ made (first + at) t)
  list-at first [] at task h = absurd (cc)
  list-at first (t ∷ tasks) zero task h =
      let z : first ≡ first + zero = omega arith in
      (t, refl, sym (same_Some (made first t) task h) ∙ ap (λ n. made n t) z)
  list-at first (t ∷ tasks) (suc at) task h =
      let r = list-at (first + 1) tasks at task h in
      let z : first + 1 + at ≡ first + suc at = omega arith in
      (r.0, r.1, r.2 ∙ ap (λ n. made n r.0) z)

  pub attached-at : (first : ℕ) (lists : List (List RowTask)) (worker at : ℕ) (task : Task) → slice_get (get_or (attached owners places kept first lists) worker []) at ≡ Some task → (t : RowTask) × (slice_get (get_or lists worker []) at ≡ Some t) × (task ≡ made (first + number lists worker at) t)
  attached-at first [] worker at task h = absurd (cc)
  attached-at first (tasks ∷ lists) zero at task h = list-at first tasks at task h
  attached-at first (tasks ∷ lists) (suc worker) at task h =
      let r = attached-at (first + length tasks) lists worker at task h in
      let z : first + length tasks + number lists worker at ≡ first + (length tasks + number lists worker at) = omega arith in
      (r.0, r.1, r.2 ∙ ap (λ n. made n r.0) z)

  same_list : (first : ℕ) (tasks : List RowTask) → map (λ (t : Task). record { level = t.level; rows = t.rows }) (attached_list owners places kept first tasks) ≡ tasks
  same_list first [] = refl
  same_list first (t ∷ tasks) = ap (λ ts. t ∷ ts) (same_list (first + 1) tasks)

  pub same_tasks : (first : ℕ) (lists : List (List RowTask)) → map (λ ts. map (λ (t : Task). record { level = t.level; rows = t.rows }) ts) (attached owners places kept first lists) ≡ lists
  same_tasks first [] = refl
  same_tasks first (tasks ∷ lists) = λ x. same_list first tasks x ∷ same_tasks (first + length tasks) lists x
