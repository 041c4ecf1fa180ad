-- The place of each line among the lines with words.
use Rattle.std.proofs.Common.{◌≡◌, ℕ, ◌+◌, ◌≤◌, ◌<◌, true, false, nat_le, List, [], ◌∷◌, map, refl, ap, ◌∙◌, arith}
use Rattle.std.proofs.lemmas.Bool.Decides.{nat_tests}
use Rattle.loop_syntax.specs.declared.numbered.Numbered.{Numbered}
use Rattle.loop_syntax.specs.Numbered.{numbered}
use Rattle.loop_laws.specs.ShownText.{place}
use Rattle.loop_syntax.proofs.FewLaws.{Rise, rises}
use Rattle.loop_laws.proofs.BackText.{counted}

abbrev pub with_number : (ℕ → ℕ) → Numbered → Numbered
with_number f l = record { number = f l.number; line = l.line }

none_up_to : (k n : ℕ) (ls : List Numbered) → k < n → Rise n ls → place ls k ≡ 0
none_up_to k n [] lt h = refl
none_up_to k n (l ∷ ls) lt h =
    let far : nat_le l.number k ≡ false = grind (arith, nat_tests, h.0) in
    rw far (none_up_to k (l.number + 1) ls (omega (arith, lt, h.0)) h.1)

one_more : (k : ℕ) (l : Numbered) (ls : List Numbered) → l.number ≤ k → place (l ∷ ls) k ≡ place ls k + 1
one_more k l ls h =
    let near : nat_le l.number k ≡ true = grind (arith, nat_tests, h) in
    rw near (omega arith)

-- lines after m others
counted_is : (m n : ℕ) (f : ℕ → ℕ) (ls : List Numbered) → Rise n ls → ((k : ℕ) → n ≤ k → f k ≡ place ls k + m) → map (with_number f) ls ≡ counted (m + 1) ls
counted_is m n f [] h is = refl
counted_is m n f (l ∷ ls) h is =
    let first = one_more l.number l ls (omega arith) in
    let none = none_up_to l.number (l.number + 1) ls (omega arith) h.1 in
    let here : f l.number ≡ m + 1 = omega (arith, is l.number h.0, first, none) in
    let more : (k : ℕ) → l.number + 1 ≤ k → f k ≡ place ls k + (m + 1) = λ k b. omega (arith, is k (omega (arith, h.0, b)), one_more k l ls (omega (arith, b))) in
    ap (λ (x : ℕ). record { number = x; line = l.line } ∷ map (with_number f) ls) here
    ∙ ap (λ (rest : List Numbered). record { number = m + 1; line = l.line } ∷ rest) (counted_is (m + 1) (l.number + 1) f ls h.1 more)

pub numbers_are : (ls : List (List ℕ)) → map (with_number (place (numbered ls))) (numbered ls) ≡ counted 1 (numbered ls)
numbers_are ls = counted_is 0 1 (place (numbered ls)) (numbered ls) (rises 1 ls) (λ k h. omega arith)

pub place_zero : (ls : List (List ℕ)) → place (numbered ls) 0 ≡ 0
place_zero ls = none_up_to 0 1 (numbered ls) (omega arith) (rises 1 ls)
