-- What stands while the rows of a level are shared out.
use Rattle.std.proofs.Common.{◌≡◌, ℕ, ◌<◌, ◌≤◌, ◌∙◌, ◌++◌, inl, inr, List, [], ◌∷◌, eqb, length, get_or, set, take, arith, refl, ap, sym, subst}
use Rattle.std.specs.List.{between}
use Rattle.std.proofs.lemmas.Bool.{cases_lt, cases_eq, cases_order, ne_eqb, eq-eqb}
use Rattle.std.proofs.lemmas.List.{length-set, get_or-set_same, get_or-set_other, append-nil, nil_from_length}
use Rattle.std.proofs.lemmas.List.Edits.{length-between}
use Rattle.wave_base.specs.declared.types.RowId.{RowId}
use Rattle.sched_types.specs.declared.sched.RowTask.{RowTask}
use Rattle.super_tasks.specs.Shares.{weight_of, worker_at, share, task_of}
use Rattle.super_tasks.proofs.Blocks.{kept-none, kept-block}
use Rattle.super_tasks.proofs.Weighing.{Weighed, weight_of-some, worker_at-rises, worker_at-zero, worker_at-all}

-- the workers of the places below `at` have their tasks, and the others don't
pub record Sharing (weights : List ℕ) (old : List (List RowTask)) (level : ℕ) (rows : List RowId) (at before : ℕ) (new : List (List RowTask)) : Type 0 where
  pub within : at ≤ length rows
  pub weighs : before ≡ weight_of weights (take at rows)
  pub many : length new ≡ length old
  pub lower : (s : ℕ) → s < at → worker_at weights (length old) rows s < worker_at weights (length old) rows at
  pub done : (w : ℕ) → w < length old → w < worker_at weights (length old) rows at → get_or new w [] ≡ get_or old w [] ++ task_of level (share weights (length old) rows w)
  pub left : (w : ℕ) → w < length old → worker_at weights (length old) rows at ≤ w → get_or new w [] ≡ get_or old w []

pub sharing_none : (weights : List ℕ) (old : List (List RowTask)) (level : ℕ) (rows : List RowId) → Sharing weights old level rows 0 0 old
sharing_none weights old level rows = record {
  within = omega arith;
  weighs = refl;
  many = refl;
  lower = λ s h. absurd (omega (arith, h));
  done = λ w h l. absurd (omega (arith, worker_at-zero weights rows (length old), l));
  left = λ w h l. refl;
}

task_of-some : (level : ℕ) (rows : List RowId) → 0 < length rows → task_of level rows ≡ record { level = level; rows = rows } ∷ []
task_of-some level [] h = absurd (omega (arith, h))
task_of-some level (r ∷ rows) h = refl

module _ (weights : List ℕ) (old : List (List RowTask)) (level : ℕ) (rows : List RowId) (at weight : ℕ) (new : List (List RowTask)) (c : Sharing weights old level rows at weight new) (some : 0 < weight_of weights rows) (worker end : ℕ) (is : worker ≡ worker_at weights (length old) rows at) (below : worker < length old) (fits : end ≤ length rows) (before : (s : ℕ) → s < end → worker_at weights (length old) rows s ≤ worker) (from : (s : ℕ) → end ≤ s → worker < worker_at weights (length old) rows s) where
  pub longer : at < end
  longer = elim (cases_lt at end) [ inl h ↦ h | inr h ↦ absurd (omega (arith, from at h, is)) ]

  share_here : share weights (length old) rows worker ≡ between at end rows
  share_here =
      kept-block (λ s. eqb (worker_at weights (length old) rows s) worker) rows at end (omega (arith, longer)) fits
      (λ s h. ne_eqb (worker_at weights (length old) rows s) worker (λ e. omega (arith, c.lower s h, is, e)))
      (λ s a b. eq-eqb (worker_at weights (length old) rows s) worker (omega (arith, before s b, worker_at-rises weights rows (length old) at s some a, is)))
      (λ s h. ne_eqb (worker_at weights (length old) rows s) worker (λ e. omega (arith, from s h, e)))

  share_between : (w : ℕ) → worker < w → w < worker_at weights (length old) rows end → share weights (length old) rows w ≡ []
  share_between w a b =
      kept-none (λ s. eqb (worker_at weights (length old) rows s) w) 0 rows (λ s _ _.
      elim (cases_lt s end) [
        | inl h ↦ ne_eqb (worker_at weights (length old) rows s) w (λ e. omega (arith, before s h, e, a))
        | inr h ↦ ne_eqb (worker_at weights (length old) rows s) w (λ e. omega (arith, worker_at-rises weights rows (length old) end s some h, e, b))
      ])

  here : get_or (set new worker (get_or new worker [] ++ (record { level = level; rows = between at end rows }) ∷ [])) worker [] ≡ get_or old worker [] ++ task_of level (share weights (length old) rows worker)
  here =
      let long : 0 < length (between at end rows) = omega (arith, length-between rows at end fits, longer) in
      get_or-set_same new worker (get_or new worker [] ++ (record { level = level; rows = between at end rows }) ∷ []) [] (omega (arith, c.many, below))
      ∙ ap (λ ts. ts ++ (record { level = level; rows = between at end rows }) ∷ []) (c.left worker below (omega (arith, is)))
      ∙ ap (λ ts. get_or old worker [] ++ ts) (sym (ap (task_of level) share_here ∙ task_of-some level (between at end rows) long))

  there : (w : ℕ) → (w ≡ worker → ⊥) → get_or (set new worker (get_or new worker [] ++ (record { level = level; rows = between at end rows }) ∷ [])) w [] ≡ get_or new w []
  there w ne = get_or-set_other new worker w (get_or new worker [] ++ (record { level = level; rows = between at end rows }) ∷ []) [] ne

  pub sharing_more : Sharing weights old level rows end (weight_of weights (take end rows)) (set new worker (get_or new worker [] ++ (record { level = level; rows = between at end rows }) ∷ []))
  sharing_more = record {
    within = fits;
    weighs = refl;
    many = length-set new worker _ ∙ c.many;
    lower = λ s h. omega (arith, before s h, from end (omega arith));
    done = λ w h u. elim (cases_order w worker) as (λ _. get_or (set new worker (get_or new worker [] ++ (record { level = level; rows = between at end rows }) ∷ [])) w [] ≡ get_or old w [] ++ task_of level (share weights (length old) rows w)) [
      | inl e ↦ subst (λ (w : ℕ). get_or (set new worker (get_or new worker [] ++ (record { level = level; rows = between at end rows }) ∷ [])) w [] ≡ get_or old w [] ++ task_of level (share weights (length old) rows w)) (sym e) here
      | inr (inl lt) ↦ there w (λ e. omega (arith, e, lt)) ∙ c.done w h (omega (arith, is, lt))
      | inr (inr gt) ↦
          there w (λ e. omega (arith, e, gt)) ∙ c.left w h (omega (arith, is, gt)) ∙ sym (append-nil (get_or old w [])) ∙ ap (λ ts. get_or old w [] ++ task_of level ts) (sym (share_between w gt u))
    ];
    left = λ w h u.
        let gt : worker < w = omega (arith, from end (omega arith), u) in
        there w (λ e. omega (arith, e, gt)) ∙ c.left w h (omega (arith, is, gt));
  }

pub sharing_end : (weights : List ℕ) (old : List (List RowTask)) (level : ℕ) (rows : List RowId) (at weight : ℕ) (new : List (List RowTask)) → Weighed weights rows → Sharing weights old level rows at weight new → length rows ≤ at → (w : ℕ) → w < length old → get_or new w [] ≡ get_or old w [] ++ task_of level (share weights (length old) rows w)
sharing_end weights old level rows at weight new are c l w h =
    elim (cases_eq (length rows) 0) as (λ _. get_or new w [] ≡ get_or old w [] ++ task_of level (share weights (length old) rows w)) [
      | inl e ↦
          let none = nil_from_length rows e in
          let z : at ≡ 0 = omega (arith, c.within, e) in
          let first : worker_at weights (length old) rows at ≡ 0 = ap (worker_at weights (length old) rows) z ∙ worker_at-zero weights rows (length old) in
          c.left w h (omega (arith, first)) ∙ sym (append-nil (get_or old w [])) ∙ ap (λ (rows : List RowId). get_or old w [] ++ task_of level (share weights (length old) rows w)) (sym none)
      | inr ne ↦
          let all : worker_at weights (length old) rows at ≡ length old = worker_at-all weights rows (length old) at (weight_of-some weights rows are (omega (arith, ne))) l in
          c.done w h (omega (arith, all, h))
    ]
