-- The weight of the first rows of a level, and the worker of the next.
use Rattle.std.proofs.Common.{◌≡◌, ℕ, ◌+◌, ◌*◌, ◌/◌, ◌^◌, ◌<◌, ◌≤◌, ◌∙◌, inl, inr, List, All, length, get_or, take, arith, ap, subst}
use Rattle.std.proofs.lemmas.Bool.{cases_lt}
use Rattle.std.proofs.lemmas.List.{take_all, take-take}
use Rattle.std.proofs.lemmas.List.Elements.{All-weaker, Contains-get_or}
use Rattle.std.proofs.lemmas.List.Sums.{sum_by_more, sum_by-take-le, sum_by-le}
use Rattle.wave_base.specs.declared.types.RowId.{RowId}
use Rattle.row_graph.specs.Rows.{row_zero}
use Rattle.wave_levels.specs.Levels.{rows_at}
use Rattle.wave_levels.proofs.RowsAt.{rows_at-members}
use Rattle.super_tasks.specs.Shares.{IsWeight, AreWeights, weight_at, weight_of, worker_at}
use Rattle.super_tasks.proofs.Division.{worker_by-rises, worker_by-zero, worker_by-all, worker_by-below}

-- each of these rows has a weight
abbrev pub Weighed : List ℕ → List RowId → Type 0
Weighed weights rows = All (λ (r : RowId). IsWeight (weight_at weights r)) rows

pub weighed : (weights : List ℕ) (rows : List RowId) → All IsWeight weights → All (λ (r : RowId). r.0 < length weights) rows → Weighed weights rows
weighed weights rows are within = λ k d l. are (get_or rows k d).0 0 (within k d l)

pub rows_at-within : (levels weights : List ℕ) (level : ℕ) → AreWeights (length levels) weights → All (λ (r : RowId). r.0 < length weights) (rows_at levels level)
rows_at-within levels weights level are = λ k d l.
    let r = get_or (rows_at levels level) k d in
    let m = (rows_at-members levels level r).0 (Contains-get_or (rows_at levels level) k d l) in
    omega (arith, m.0, are.0)

pub rows_at-weighed : (levels weights : List ℕ) (level : ℕ) → AreWeights (length levels) weights → Weighed weights (rows_at levels level)
rows_at-weighed levels weights level are = weighed weights (rows_at levels level) are.1 (rows_at-within levels weights level are)

module _ (weights : List ℕ) (rows : List RowId) where
  pub weight_of-upto : (s t : ℕ) → s ≤ t → weight_of weights (take s rows) ≤ weight_of weights (take t rows)
  weight_of-upto s t h =
      subst (λ (rs : List RowId). weight_of weights rs ≤ weight_of weights (take t rows)) (take-take s t rows h) (sum_by-take-le (weight_at weights) (take t rows) s)

  pub weight_of-more : (s : ℕ) (d : RowId) → s < length rows → weight_of weights (take (s + 1) rows) ≡ weight_of weights (take s rows) + weight_at weights (get_or rows s d)
  weight_of-more s d l = sum_by_more (weight_at weights) rows s d l

  pub weight_of-all : (s : ℕ) → length rows ≤ s → weight_of weights (take s rows) ≡ weight_of weights rows
  weight_of-all s l = ap (weight_of weights) (take_all s rows l)

  -- a place before which stands less than all isn't the end
  pub place_within : (at limit : ℕ) → weight_of weights (take at rows) < limit → limit ≤ weight_of weights rows → at < length rows
  place_within at limit l m =
      elim (cases_lt at (length rows)) as (λ _. at < length rows) [
        | inl h ↦ h
        | inr g ↦ absurd (omega (arith, l, m, weight_of-all at g))
      ]

  module _ (are : Weighed weights rows) where
    pub weight_of-below : (s : ℕ) → s < length rows → weight_of weights (take s rows) < weight_of weights rows
    weight_of-below s l =
        let q = (are s row_zero l).0 in
        omega (arith, weight_of-more s row_zero l, q, sum_by-take-le (weight_at weights) rows (s + 1))

    pub weight_of-some : 0 < length rows → 0 < weight_of weights rows
    weight_of-some l = omega (arith, weight_of-below 0 l)

    pub weight_of-fits : length rows < 2 ^ 32 → weight_of weights rows < 2 ^ 64
    weight_of-fits few =
        let each = All-weaker (λ (r : RowId). IsWeight (weight_at weights r)) (λ (r : RowId). weight_at weights r ≤ 2 ^ 32) (λ r w. w.1) rows are in
        omega (arith, few, sum_by-le (weight_at weights) (2 ^ 32) rows each)

    pub weight_of-take_fits : (s : ℕ) → length rows < 2 ^ 32 → weight_of weights (take s rows) < 2 ^ 64
    weight_of-take_fits s few = omega (arith, weight_of-fits few, sum_by-take-le (weight_at weights) rows s)

  module _ (workers : ℕ) where
    pub worker_at-rises : (s t : ℕ) → 0 < weight_of weights rows → s ≤ t → worker_at weights workers rows s ≤ worker_at weights workers rows t
    worker_at-rises s t p h = worker_by-rises workers (weight_of weights rows) (weight_of weights (take s rows)) (weight_of weights (take t rows)) p (weight_of-upto s t h)

    pub worker_at-zero : worker_at weights workers rows 0 ≡ 0
    worker_at-zero = worker_by-zero workers (weight_of weights rows)

    pub worker_at-all : (s : ℕ) → 0 < weight_of weights rows → length rows ≤ s → worker_at weights workers rows s ≡ workers
    worker_at-all s p l = ap (λ n. n * workers / weight_of weights rows) (weight_of-all s l) ∙ worker_by-all workers (weight_of weights rows) p

    pub worker_at-below : (s : ℕ) → Weighed weights rows → s < length rows → 0 < workers → worker_at weights workers rows s < workers
    worker_at-below s are l p = worker_by-below workers (weight_of weights rows) (weight_of weights (take s rows)) (weight_of-below are s l) p

-- the places of one worker end where the weight before them reaches a limit
module _ (weights : List ℕ) (workers : ℕ) (rows : List RowId) (at end worker limit : ℕ) (some : 0 < weight_of weights rows) (is : worker ≡ worker_at weights workers rows at) (low : (b : ℕ) → b < limit → b * workers / weight_of weights rows ≤ worker) (high : (b : ℕ) → limit ≤ b → worker < b * workers / weight_of weights rows) where
  pub end_before : ((s : ℕ) → at ≤ s → s < end → weight_of weights (take s rows) < limit) → (s : ℕ) → s < end → worker_at weights workers rows s ≤ worker
  end_before passed s h =
      elim (cases_lt s at) as (λ _. worker_at weights workers rows s ≤ worker) [
        | inl l ↦ omega (arith, is, worker_at-rises weights rows workers s at some (omega (arith, l)))
        | inr g ↦ low (weight_of weights (take s rows)) (passed s g h)
      ]

  pub end_from : limit ≤ weight_of weights (take end rows) → (s : ℕ) → end ≤ s → worker < worker_at weights workers rows s
  end_from reached s h = high (weight_of weights (take s rows)) (omega (arith, reached, weight_of-upto weights rows end s h))
