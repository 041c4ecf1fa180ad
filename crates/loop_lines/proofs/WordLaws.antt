-- A number that is capped at 64 bits tells whether the number fits 63.
use Rattle.std.proofs.Common.{◌≡◌, ℕ, ◌^◌, Bool, true, false, nat_lt, Option, Some, None, refl, arith}
use Rattle.std.proofs.lemmas.Bool.Decides.{nat_tests}
use Rattle.std.specs.Option.{option_map}
use Rattle.text_base.specs.Numbers.{capped}
use Rattle.loop_lines.specs.Words.{number}

pub capped_number : (o : Option ℕ) → number (option_map capped o) ≡ number o
capped_number None = refl
capped_number (Some n) =
    let P : Bool → Type 0 = λ v. nat_lt n (2 ^ 63) ≡ v → number (Some (capped n)) ≡ number (Some n) in
    let each : (v : Bool) → P v = λ v. elim v as P [
      | true ↦ (λ e. let same : capped n ≡ n = grind (arith, nat_tests) in rw same refl)
      | false ↦ (λ e. let not : nat_lt (capped n) (2 ^ 63) ≡ false = grind (arith, nat_tests) in rw (e, not) refl)
    ] in
    each (nat_lt n (2 ^ 63)) refl
