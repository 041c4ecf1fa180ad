-- Rows of one weight.
use Rattle.std.proofs.Common.{◌≡◌, ℕ, suc, zero, ◌*◌, ◌/◌, ◌<◌, ◌≤◌, ◌∙◌, List, [], ◌∷◌, All, length, take, arith, ap, sym}
use Rattle.std.proofs.lemmas.List.{take_all}
use Rattle.std.proofs.lemmas.List.Elements.{All-head, All-tail}
use Rattle.std.proofs.lemmas.List.Sums.{sum_by-cons}
use Rattle.std.proofs.Math.Nat.{mul_comm, mul_assoc, mul-div-mul_left}
use Rattle.wave_base.specs.declared.types.RowId.{RowId}
use Rattle.super_tasks.specs.Shares.{weight_at, weight_of, worker_at}

first_weighs : (weights : List ℕ) (weight : ℕ) (rows : List RowId) (s : ℕ) → s ≤ length rows → All (λ (r : RowId). weight_at weights r ≡ weight) rows → weight_of weights (take s rows) ≡ weight * s
first_weighs weights weight rows zero l h = omega arith
first_weighs weights weight [] (suc s) l h = absurd (omega (arith, l))
first_weighs weights weight (r ∷ rows) (suc s) l h =
    let one = All-head (λ (r : RowId). weight_at weights r ≡ weight) r rows h in
    let rest = first_weighs weights weight rows s (omega (arith, l)) (All-tail (λ (r : RowId). weight_at weights r ≡ weight) r rows h) in
    let sum = sum_by-cons (weight_at weights) r (take s rows) in
    omega (arith, one, rest, sum, mul_comm weight s, mul_comm weight (suc s))

pub shared_by_number : (weights : List ℕ) (workers weight : ℕ) (rows : List RowId) (place : ℕ) → 0 < weight → All (λ (r : RowId). weight_at weights r ≡ weight) rows → place ≤ length rows → worker_at weights workers rows place ≡ place * workers / length rows
shared_by_number weights workers weight rows place some same l =
    let before : weight_of weights (take place rows) ≡ weight * place = first_weighs weights weight rows place l same in
    let whole : weight_of weights rows ≡ weight * length rows = ap (weight_of weights) (sym (take_all (length rows) rows (omega arith))) ∙ first_weighs weights weight rows (length rows) (omega arith) same in
    let a : worker_at weights workers rows place ≡ weight * place * workers / (weight * length rows) = λ x. before x * workers / whole x in
    let b : weight * place * workers / (weight * length rows) ≡ weight * (place * workers) / (weight * length rows) = ap (λ (n : ℕ). n / (weight * length rows)) (mul_assoc weight place workers) in
    a ∙ b ∙ mul-div-mul_left (place * workers) (length rows) some
