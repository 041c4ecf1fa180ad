use Rattle.std.proofs.Common.{rules, arith, ◌≡◌, ◌<◌, ◌+◌, ◌++◌, ◌∷◌, ℕ, List, [], length, map, take, get_or, sym, ap, ◌∙◌, append_assoc}
use Rattle.std.specs.Prelude.{ℤ, pos}
use Rattle.std.proofs.lemmas.List.{take_more}
use mathlib.Core.List.{map-append}
use Rattle.done_words.specs.WordsOf.{word_of}
use Rattle.done_words.proofs.words.push_words.Goals as goal

one_more : (before : List ℕ) (l : List ℤ) (i : ℕ) → i < length l → (before ++ map word_of (take i l)) ++ word_of (get_or l i (pos 0)) ∷ [] ≡ before ++ map word_of (take (i + 1) l)
one_more before l i h = append_assoc before (map word_of (take i l)) (word_of (get_or l i (pos 0)) ∷ []) ∙ ap (λ (m : List ℕ). before ++ m)
    (sym (map-append word_of (take i l) (get_or l i (pos 0) ∷ [])) ∙ ap (map word_of) (sym (take_more l i (pos 0) h)))

pub loop-value-preserved : goal.loop-value-preserved
loop-value-preserved c = let i = c.loop-value.value-index in let l = c.args.values.now in let lt = c.loop-value-test.true in
    let put : c.cast_unsigned.result ≡ word_of (get_or l i (pos 0)) = search rules in let bound : i < length l = first_of (omega arith, search rules) in
    let pushed : c.push.new.self.items ≡ c.loop-value.onto.items ++ c.cast_unsigned.result ∷ [] = search rules in
    pushed ∙ ((λ t. c.loop-value.invariant t ++ put t ∷ []) ∙ one_more c.args.onto.now.items l i bound)
