-- The tasks of the levels so far.
use Rattle.std.proofs.Common.{◌≡◌, ℕ, suc, zero, add-one, ◌+◌, ◌<◌, ◌∙◌, ◌++◌, List, [], length, get_or, arith, ap, sym}
use Rattle.std.specs.List.{range_with_len, flat_map}
use Rattle.std.proofs.lemmas.List.{append-nil, append_assoc}
use Rattle.std.proofs.lemmas.List.FromFn.{fill_by_all}
use Rattle.sched_types.specs.declared.sched.RowTask.{RowTask}
use Rattle.super_tasks.specs.Shares.{task_at, worker_tasks, groups}
use Rattle.wave_levels.specs.Levels.{above}

pub flat_map-range_more : {X : Type 0} (f : ℕ → List X) (a n : ℕ) → flat_map f (range_with_len a (suc n)) ≡ flat_map f (range_with_len a n) ++ f (a + n)
flat_map-range_more f a zero = append-nil (f a) ∙ ap f (omega arith)
flat_map-range_more f a (suc n) =
    let r = flat_map-range_more f (a + 1) n in
    let e : a + 1 + n ≡ a + suc n = omega arith in
    ap (λ xs. f a ++ xs) r ∙ sym (append_assoc (f a) (flat_map f (range_with_len (a + 1) n)) (f (a + 1 + n))) ∙ ap (λ k. (f a ++ flat_map f (range_with_len (a + 1) n)) ++ f k) e

-- each list has the tasks of the first levels
pub record Grouping (levels weights : List ℕ) (workers : ℕ) (level : ℕ) (lists : List (List RowTask)) : Type 0 where
  pub many : length lists ≡ workers
  pub tasks : (w : ℕ) → w < workers → get_or lists w [] ≡ flat_map (task_at levels weights workers w) (range_with_len 0 level)

pub grouping_more : (levels weights : List ℕ) (workers level : ℕ) (lists more : List (List RowTask)) → Grouping levels weights workers level lists → length more ≡ length lists → ((w : ℕ) → w < workers → get_or more w [] ≡ get_or lists w [] ++ task_at levels weights workers w level) → Grouping levels weights workers (level + 1) more
grouping_more levels weights workers level lists more g len h = record {
  many = len ∙ g.many;
  tasks = λ w l.
      let m = flat_map-range_more (task_at levels weights workers w) 0 level in
      let e : 0 + level ≡ level = omega arith in
      let s : flat_map (task_at levels weights workers w) (range_with_len 0 (level + 1)) ≡ flat_map (task_at levels weights workers w) (range_with_len 0 level) ++ task_at levels weights workers w level = rw add-one (m ∙ ap (λ k. flat_map (task_at levels weights workers w) (range_with_len 0 level) ++ task_at levels weights workers w k) e) in
      h w l ∙ ap (λ ts. ts ++ task_at levels weights workers w level) (g.tasks w l) ∙ sym s;
}

pub grouping_end : (levels weights : List ℕ) (workers level : ℕ) (lists : List (List RowTask)) → Grouping levels weights workers level lists → level ≡ above levels → lists ≡ groups levels weights workers
grouping_end levels weights workers level lists g e =
    fill_by_all (worker_tasks levels weights workers) lists workers [] g.many (λ w l. g.tasks w l ∙ ap (λ n. flat_map (task_at levels weights workers w) (range_with_len 0 n)) e)
