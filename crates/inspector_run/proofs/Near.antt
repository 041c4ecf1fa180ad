-- How far from 0 the values are that are tried.
use Rattle.std.proofs.Common.{◌≡◌, ℕ, zero, suc, ℤ, pos, negsuc, ◌+ℤ◌, ◌-ℤ◌, ◌≤ℤ◌, ◌+◌, ◌-◌, ◌^◌, ◌<◌, ◌≤◌, List, [], ◌∷◌, refl, ap, arith, unsigned_abs}
use borrow.Author.Differences.{up, down}
use Rattle.std.specs.List.{All}
use Rattle.std.proofs.lemmas.Int.{ints}
use Rattle.std.proofs.lemmas.List.Elements.{All-nil, All-cons, All-head, All-tail}
use Rattle.loop_core.specs.Instances.{natural, trips}
use Rattle.inspector_run.specs.Tries.{numbers, numbers_between, moved}
use Rattle.inspector_run.specs.Ready.{reach, AreNear}

pub natural_is : (z : ℤ) → natural z ≡ up z - down z
natural_is (pos n) = omega arith
natural_is (negsuc n) = omega arith

numbers_within : (b n : ℕ) (first lo hi : ℤ) → unsigned_abs lo ≤ b → unsigned_abs hi ≤ b → lo ≤ℤ first → (first +ℤ pos n) ≤ℤ hi → All (λ x. unsigned_abs x ≤ b) (numbers n first)
numbers_within b zero first lo hi low high at end = All-nil (λ x. unsigned_abs x ≤ b)
numbers_within b (suc n) first lo hi low high at end =
    let here : unsigned_abs first ≤ b = omega (arith, ints) in
    let next : lo ≤ℤ (first +ℤ pos 1) = omega (arith, ints) in
    let rest : (first +ℤ pos 1 +ℤ pos n) ≤ℤ hi = omega (arith, ints) in
    All-cons (λ x. unsigned_abs x ≤ b) first (numbers n (first +ℤ pos 1)) here
    (numbers_within b n (first +ℤ pos 1) lo hi low high next rest)

pub numbers_near : (k : ℕ) (lo hi : ℤ) → unsigned_abs lo ≤ reach (k + 1) → unsigned_abs hi ≤ reach (k + 1) → AreNear k (numbers_between lo hi)
numbers_near k lo hi low high = by (trips lo hi) refl
  where
    by : (n : ℕ) → trips lo hi ≡ n → AreNear k (numbers n lo)
    by zero e = All-nil (λ x. unsigned_abs x ≤ reach (k + 1))
    by (suc n) e =
        let start : lo ≤ℤ lo = omega (arith, ints) in
        let end : (lo +ℤ pos (suc n)) ≤ℤ hi = omega (arith, ints, natural_is (hi -ℤ lo)) in
        numbers_within (reach (k + 1)) (suc n) lo lo hi low high start end

pub number_alone : (x : ℤ) → numbers_between x (x +ℤ pos 1) ≡ x ∷ []
number_alone x =
    let one : trips x (x +ℤ pos 1) ≡ 1 = omega (arith, ints, natural_is (x +ℤ pos 1 -ℤ x)) in
    ap (λ n. numbers n x) one

pub moved_near : (k : ℕ) (plus : ℤ) (places : List ℕ) → unsigned_abs plus ≤ 2 ^ 31 → All (λ s. s < 2 ^ 64) places → AreNear k (moved plus places)
moved_near k plus [] small fit = All-nil (λ x. unsigned_abs x ≤ reach (k + 1))
moved_near k plus (s ∷ ss) small fit =
    let below : s < 2 ^ 64 = All-head (λ t. t < 2 ^ 64) s ss fit in
    let here : unsigned_abs (pos s -ℤ plus) ≤ reach (k + 1) = omega (arith, ints) in
    All-cons (λ x. unsigned_abs x ≤ reach (k + 1)) (pos s -ℤ plus) (moved plus ss) here (moved_near k plus ss small (All-tail (λ t. t < 2 ^ 64) s ss fit))
