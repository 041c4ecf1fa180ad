-- Where the weights before the rows of one worker end.
use Rattle.std.proofs.Common.{◌≡◌, ℕ, ◌+◌, ◌-◌, ◌*◌, ◌/◌, ◌<◌, ◌≤◌, ◌∙◌, arith, ap}
use Rattle.std.proofs.Math.Nat.{div-lt_iff_lt-mul, le-div_iff_mul-le, div-mul-le_self, mul-le-mul_right, mul_comm, mul-div_left, zero-div, zero-mul}

-- the worker of a row before which stand rows of some weight
abbrev pub worker_by : ℕ → ℕ → ℕ → ℕ
worker_by workers total before = before * workers / total

pub worker_by-rises : (workers total s t : ℕ) → 0 < total → s ≤ t → worker_by workers total s ≤ worker_by workers total t
worker_by-rises workers total s t p h =
    let a = div-mul-le_self (s * workers) total in
    let b : s * workers ≤ t * workers = mul-le-mul_right workers h in
    (le-div_iff_mul-le p).1 (omega (arith, a, b))

pub worker_by-zero : (workers total : ℕ) → worker_by workers total 0 ≡ 0
worker_by-zero workers total = ap (λ n. n / total) (zero-mul workers) ∙ zero-div total

pub worker_by-all : (workers total : ℕ) → 0 < total → worker_by workers total total ≡ workers
worker_by-all workers total p = ap (λ n. n / total) (mul_comm total workers) ∙ mul-div_left workers p

pub worker_by-below : (workers total s : ℕ) → s < total → 0 < workers → worker_by workers total s < workers
worker_by-below workers total s h p = (div-lt_iff_lt-mul (omega arith)).1 (grind (arith, mul_comm))

module _ (worker workers total : ℕ) (some : 0 < total) (below : worker < workers) where
  pub limit_before : (s : ℕ) → s < ((worker + 1) * total + workers - 1) / workers → worker_by workers total s ≤ worker
  limit_before s h =
      let many : 0 < workers = omega arith in
      let a : (s + 1) * workers ≤ (worker + 1) * total + workers - 1 = (le-div_iff_mul-le many).0 (omega arith) in
      let b : s * workers < (worker + 1) * total = omega arith in
      let c : s * workers / total < worker + 1 = (div-lt_iff_lt-mul some).1 b in
      omega (arith, c)

  pub limit_from : (s : ℕ) → ((worker + 1) * total + workers - 1) / workers ≤ s → worker < worker_by workers total s
  limit_from s h =
      let many : 0 < workers = omega arith in
      let a : (worker + 1) * total + workers - 1 < (s + 1) * workers = (div-lt_iff_lt-mul many).0 (omega arith) in
      let b : (worker + 1) * total ≤ s * workers = omega arith in
      let c : worker + 1 ≤ s * workers / total = (le-div_iff_mul-le some).1 b in
      omega (arith, c)

  pub limit_within : ((worker + 1) * total + workers - 1) / workers ≤ total
  limit_within =
      let many : 0 < workers = omega arith in
      let a : (worker + 1) * total ≤ workers * total = mul-le-mul_right total (omega arith) in
      let b : (worker + 1) * total + workers - 1 < (total + 1) * workers = omega (arith, a, mul_comm workers total) in
      let c : ((worker + 1) * total + workers - 1) / workers < total + 1 = (div-lt_iff_lt-mul many).1 b in
      omega (arith, c)
