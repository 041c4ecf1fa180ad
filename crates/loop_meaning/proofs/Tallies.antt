-- Lemmas on numbers of instances.
use Rattle.std.proofs.Common.{◌≡◌, ℕ, zero, suc, ◌+◌, ◌*◌, ◌<◌, ◌≤◌, List, ◌++◌, length, get_or, drop, refl, add-one, sym, ap, ◌∙◌, arith, ℤ, pos, ◌+ℤ◌, ◌≤ℤ◌, ◌<ℤ◌}
use Rattle.std.proofs.Math.Logic.{⊎_elim}
use Rattle.std.proofs.lemmas.Bool.{cases_lt}
use native.Mathlib.Numerals.{unary_clauses}
use Rattle.std.proofs.Math.Nat.{suc-mul}
use Rattle.std.proofs.lemmas.List.{length-append}
use Rattle.loop_core.specs.declared.nest.Item.{Item}
use Rattle.loop_core.specs.Lists.{Lists}
use Rattle.loop_core.specs.Variables.{Binding}
use Rattle.loop_core.specs.Instances.{Instance, item_instances, body_instances, turns, trips}
use Rattle.loop_meaning.specs.Weights.{counted}
use Rattle.loop_meaning.proofs.Runs.{trips_step}
use Rattle.loop_meaning.proofs.Walks.{rest_of_body, drop_past, trips_none}

-- counting on
pub counted_on : (before here rest : ℕ) → counted (counted (before + here) + rest) ≡ counted (before + (here + rest))
counted_on before here rest = omega arith

pub body_length : (a : Lists) (items : List Item) (k : ℕ) (d : Item) (env : List Binding) → k < length items → length (body_instances a (drop k items) env) ≡ length (item_instances a (get_or items k d) env) + length (body_instances a (drop (k + 1) items) env)
body_length a items k d env lt =
    ap length (rest_of_body a items k d env lt) ∙ length-append (item_instances a (get_or items k d) env) (body_instances a (drop (suc k) items) env)
    ∙ ap (λ j. length (item_instances a (get_or items k d) env) + length (body_instances a (drop j items) env)) (sym (add-one k))

pub body_end : (a : Lists) (items : List Item) (k : ℕ) (env : List Binding) → length items ≤ k → length (body_instances a (drop k items) env) ≡ 0
body_end a items k env le = ap (λ l. length (body_instances a l env)) (drop_past items k le)

pub turns_front : (body : ℤ → List Instance) (i hi : ℤ) → i <ℤ hi → length (turns (trips i hi) i body) ≡ length (body i) + length (turns (trips (i +ℤ pos 1) hi) (i +ℤ pos 1) body)
turns_front body i hi lt =
    ap (λ n. length (turns n i body)) (trips_step i hi lt) ∙ length-append (body i) (turns (trips (i +ℤ pos 1) hi) (i +ℤ pos 1) body)

pub turns_end : (body : ℤ → List Instance) (i hi : ℤ) → hi ≤ℤ i → length (turns (trips i hi) i body) ≡ 0
turns_end body i hi le = ap (λ n. length (turns n i body)) (trips_none i hi le)

plus_comm : (m n : ℕ) → m + n ≡ n + m
plus_comm m n = omega arith

-- turns of one length
pub turns_length : (n : ℕ) (first : ℤ) (body : ℤ → List Instance) (each : ℕ) → ((i : ℤ) → length (body i) ≡ each) → length (turns n first body) ≡ n * each
turns_length zero first body each all = let none : 0 ≡ 0 * each = omega arith in none
turns_length (suc n) first body each all =
    let rest = turns n (first +ℤ pos 1) body in
    let here : length (body first ++ rest) ≡ each + n * each =
    length-append (body first) rest ∙ ap (λ k. k + length rest) (all first) ∙ ap (λ k. each + k) (turns_length n (first +ℤ pos 1) body each all) in
    here ∙ plus_comm each (n * each) ∙ sym (suc-mul n each)

-- turns past the greatest number that counts don't count
at_least : (n k : ℕ) → n ≤ n * suc k
at_least n k = let here : n ≤ n * k + n = omega arith in simp unary_clauses here

pub counted_turns : (before n each : ℕ) → counted (before + counted n * each) ≡ counted (before + n * each)
counted_turns before n zero = simp unary_clauses refl
counted_turns before n (suc k) =
    ⊎_elim
    (λ few. let all : counted n ≡ n = omega (arith, few) in ap (λ m. counted (before + m * suc k)) all)
    (λ many. omega (arith, many, at_least n k, at_least (counted n) k))
    (cases_lt n 4294967295)

pub counted_end : (count rest : ℕ) → count ≤ 4294967295 → rest ≡ 0 → count ≡ counted (count + rest)
counted_end count rest few none = omega (arith, few, none)

pub counted_few : (n : ℕ) → counted n ≤ 4294967295
counted_few n = omega arith
