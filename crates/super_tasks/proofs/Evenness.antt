-- No share is much heavier than another.
use Rattle.std.proofs.Common.{◌≡◌, ℕ, suc, ◌+◌, ◌*◌, ◌/◌, ◌<◌, ◌≤◌, ◌∙◌, inl, inr, List, [], ◌∷◌, Bool, true, false, cond, eqb, All, length, get_or, take, arith, refl, ap, sym, subst}
use Rattle.std.specs.List.{range_with_len, flat_map}
use Rattle.std.proofs.lemmas.Bool.{cases_lt, eqb-true, ne_eqb}
use Rattle.std.proofs.lemmas.List.Elements.{All-nil, All-cons, All-head, All-tail, All-append, All-map, All-weaker}
use Rattle.std.proofs.lemmas.List.Sums.{sum_by-cons}
use Rattle.std.proofs.Math.Nat.{le-div_iff_mul-le, mul-le-mul_right, mul_comm}
use Rattle.wave_base.specs.declared.types.RowId.{RowId}
use Rattle.sched_types.specs.declared.sched.RowTask.{RowTask}
use Rattle.wave_levels.specs.Levels.{above, rows_at}
use Rattle.super_tasks.specs.Shares.{AreWeights, weight_at, weight_of, worker_at, share, task_of, task_at, worker_tasks, groups, greatest, IsEven, AreEven}
use Rattle.super_tasks.proofs.Blocks.{kept, kept-cons}
use Rattle.super_tasks.proofs.Weighing.{Weighed, weight_of-some, rows_at-weighed}

module _ (weights : List ℕ) (workers total worker most : ℕ) (some : 0 < total) where
  -- the places that pass are those of the worker; before the first stand rows of some weight
  abbrev Tests : (ℕ → Bool) → ℕ → ℕ → List RowId → Type 0
  Tests p n before rows =
      (k : ℕ) → k < length rows → p (n + k) ≡ eqb ((before + weight_of weights (take k rows)) * workers / total) worker

  tests_first : (p : ℕ → Bool) (n before : ℕ) (r : RowId) (rows : List RowId) → Tests p n before (r ∷ rows) → p n ≡ eqb (before * workers / total) worker
  tests_first p n before r rows h =
      let z : n ≡ n + 0 = omega arith in
      let e : before + 0 ≡ before = omega arith in
      ap p z ∙ h 0 (omega arith) ∙ ap (λ b. eqb (b * workers / total) worker) e

  tests_rest : (p : ℕ → Bool) (n before : ℕ) (r : RowId) (rows : List RowId) → Tests p n before (r ∷ rows) → Tests p (n + 1) (before + weight_at weights r) rows
  tests_rest p n before r rows h k l =
      let z : n + 1 + k ≡ n + suc k = omega arith in
      let s = sum_by-cons (weight_at weights) r (take k rows) in
      let e : before + weight_of weights (r ∷ take k rows) ≡ before + weight_at weights r + weight_of weights (take k rows) = omega (arith, s) in
      ap p z ∙ h (suc k) (omega (arith, l)) ∙ ap (λ b. eqb (b * workers / total) worker) e

  past : (before : ℕ) → (worker + 1) * total ≤ before * workers → eqb (before * workers / total) worker ≡ false
  past before h =
      let a : worker + 1 ≤ before * workers / total = (le-div_iff_mul-le some).1 h in
      ne_eqb (before * workers / total) worker (λ e. omega (arith, a, e))

  none_past : (p : ℕ → Bool) (n before : ℕ) (rows : List RowId) → Tests p n before rows → (worker + 1) * total ≤ before * workers → kept p n rows ≡ []
  none_past p n before [] h g = refl
  none_past p n before (r ∷ rows) h g =
      let m : before * workers ≤ (before + weight_at weights r) * workers = mul-le-mul_right workers (omega arith) in
      let rest = none_past p (n + 1) (before + weight_at weights r) rows (tests_rest p n before r rows h) (omega (arith, g, m)) in
      kept-cons p n r rows ∙ ap (λ b. cond b (r ∷ kept p (n + 1) rows) (kept p (n + 1) rows)) (tests_first p n before r rows h ∙ past before g) ∙ rest

  -- what is left to the worker, before whose rest stand rows of some weight
  record Left (before weight : ℕ) : Type 0 where
    after_weight : weight * workers + before * workers < (worker + 1) * total + workers * most
    after_start : weight * workers + worker * total < (worker + 1) * total + workers * most

  left_none : (before : ℕ) → before * workers < (worker + 1) * total → Left before 0
  left_none before l = record { after_weight = omega (arith, l); after_start = omega (arith, some) }

  left_more : (before q rest : ℕ) (b : Bool) → q ≤ most → before * workers < (worker + 1) * total → b ≡ eqb (before * workers / total) worker → Left (before + q) rest → Left before (cond b (q + rest) rest)
  left_more before q rest true m l e h =
      let is = eqb-true (before * workers / total) worker (sym e) in
      let start : worker * total ≤ before * workers = (le-div_iff_mul-le some).0 (omega (arith, is)) in
      record { after_weight = omega (arith, h.after_weight); after_start = omega (arith, h.after_weight, start) }
  left_more before q rest false m l e h =
      let up : before * workers ≤ (before + q) * workers = mul-le-mul_right workers (omega arith) in
      record { after_weight = omega (arith, h.after_weight, up); after_start = h.after_start }

  left_past : (before q : ℕ) → q ≤ most → before * workers < (worker + 1) * total → Left (before + q) 0
  left_past before q m l =
      let up : q * workers ≤ most * workers = mul-le-mul_right workers m in
      record { after_weight = omega (arith, l, up, mul_comm most workers); after_start = omega (arith, some) }

  weight-cond : (b : Bool) (r : RowId) (rows : List RowId) → weight_of weights (cond b (r ∷ rows) rows) ≡ cond b (weight_at weights r + weight_of weights rows) (weight_of weights rows)
  weight-cond true r rows = sum_by-cons (weight_at weights) r rows
  weight-cond false r rows = refl

  left : (p : ℕ → Bool) (n before : ℕ) (rows : List RowId) → Tests p n before rows → All (λ (r : RowId). weight_at weights r ≤ most) rows → before * workers < (worker + 1) * total → Left before (weight_of weights (kept p n rows))
  left p n before [] h m l = left_none before l
  left p n before (r ∷ rows) h m l =
      let q = weight_at weights r in
      let lower = All-head (λ (r : RowId). weight_at weights r ≤ most) r rows m in
      let others = All-tail (λ (r : RowId). weight_at weights r ≤ most) r rows m in
      let tests = tests_rest p n before r rows h in
      let rest : Left (before + q) (weight_of weights (kept p (n + 1) rows)) =
      elim (cases_lt ((before + q) * workers) ((worker + 1) * total)) as (λ _. Left (before + q) (weight_of weights (kept p (n + 1) rows))) [
        | inl a ↦ left p (n + 1) (before + q) rows tests others a
        | inr a ↦ subst (λ (rs : List RowId). Left (before + q) (weight_of weights rs)) (sym (none_past p (n + 1) (before + q) rows tests a)) (left_past before q lower l)
      ] in
      let e = ap (weight_of weights) (kept-cons p n r rows) ∙ weight-cond (p n) r (kept p (n + 1) rows) in
      subst (Left before) (sym e) (left_more before q (weight_of weights (kept p (n + 1) rows)) (p n) lower l (tests_first p n before r rows h) rest)

  light : (p : ℕ → Bool) (rows : List RowId) → Tests p 0 0 rows → All (λ (r : RowId). weight_at weights r ≤ most) rows → weight_of weights (kept p 0 rows) * workers < total + workers * most
  light p rows h m =
      let up : 0 * workers < (worker + 1) * total = omega (arith, some) in
      let w = (left p 0 0 rows h m up).after_start in
      omega (arith, w)

pub below_greatest : (weights : List ℕ) (rows : List RowId) → All (λ (r : RowId). weight_at weights r ≤ greatest weights rows) rows
below_greatest weights [] = All-nil (λ (r : RowId). weight_at weights r ≤ 0)
below_greatest weights (r ∷ rows) =
    let rest = All-weaker (λ (s : RowId). weight_at weights s ≤ greatest weights rows) (λ (s : RowId). weight_at weights s ≤ greatest weights (r ∷ rows)) (λ x l. omega (arith, l)) rows (below_greatest weights rows) in
    All-cons (λ (s : RowId). weight_at weights s ≤ greatest weights (r ∷ rows)) r rows (omega arith) rest

pub share_light : (weights : List ℕ) (workers : ℕ) (rows : List RowId) (worker : ℕ) → Weighed weights rows → 0 < length rows → weight_of weights (share weights workers rows worker) * workers < weight_of weights rows + workers * greatest weights rows
share_light weights workers rows worker are l =
    let tests = λ (k : ℕ) (m : k < length rows).
    let z : 0 + k ≡ k = omega arith in
    let e : weight_of weights (take k rows) ≡ 0 + weight_of weights (take k rows) = omega arith in
    ap (λ s. eqb (worker_at weights workers rows s) worker) z ∙ ap (λ b. eqb (b * workers / weight_of weights rows) worker) e in
    light weights workers (weight_of weights rows) worker (greatest weights rows) (weight_of-some weights rows are l) (λ s. eqb (worker_at weights workers rows s) worker) rows tests (below_greatest weights rows)

all_task : (P : RowTask → Type 0) (level : ℕ) (rows : List RowId) → (0 < length rows → P (record { level = level; rows = rows })) → All P (task_of level rows)
all_task P level [] h = All-nil P
all_task P level (r ∷ rows) h = All-cons P (record { level = level; rows = r ∷ rows }) [] (h (omega arith)) (All-nil P)

all_flat_map : {X Y : Type 0} (P : Y → Type 0) (f : X → List Y) → ((x : X) → All P (f x)) → (xs : List X) → All P (flat_map f xs)
all_flat_map P f h [] = All-nil P
all_flat_map P f h (x ∷ xs) = All-append P (f x) (flat_map f xs) (h x) (all_flat_map P f h xs)

share-none : (weights : List ℕ) (workers worker : ℕ) (rows : List RowId) → 0 < length (share weights workers rows worker) → 0 < length rows
share-none weights workers worker [] h = h
share-none weights workers worker (r ∷ rows) h = omega arith

worker_even : (levels weights : List ℕ) (workers worker : ℕ) → AreWeights (length levels) weights → All (IsEven levels weights workers) (worker_tasks levels weights workers worker)
worker_even levels weights workers worker are =
    all_flat_map (IsEven levels weights workers) (task_at levels weights workers worker)
    (λ level.
    all_task (IsEven levels weights workers) level (share weights workers (rows_at levels level) worker)
    (λ some. share_light weights workers (rows_at levels level) worker (rows_at-weighed levels weights level are) (share-none weights workers worker (rows_at levels level) some)))
    (range_with_len 0 (above levels))

pub groups_even : (levels weights : List ℕ) (workers : ℕ) → AreWeights (length levels) weights → AreEven levels weights workers (groups levels weights workers)
groups_even levels weights workers are =
    All-map (λ (ts : List RowTask). All (IsEven levels weights workers) ts) (worker_tasks levels weights workers) (range_with_len 0 workers)
    (λ k d l. worker_even levels weights workers (get_or (range_with_len 0 workers) k d) are)
