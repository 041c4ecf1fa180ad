use Rattle.std.proofs.Common.{rules, arith, ◌≡◌, ◌+◌, ℕ, List, [], ◌∷◌, get_or, set, zero, suc, sym, ap, ◌∙◌, subst}
use Rattle.std.specs.Prelude.{ℤ}
use Rattle.std.specs.Slots.{slots_items}
use mathlib.Core.Option.{some, some-injective, some-ne-none}
use lib.ListN.{get_elem?}
use Rattle.done_words.specs.WordsOf.{value_of, word_of}
use Rattle.done_words.specs.Copied.{AreCopied}
use Rattle.core_words.specs.WordsOf.{list_of}
use Rattle.done_words.proofs.Closing.{one_more_copied}
use Rattle.done_words.proofs.copying.copy_array.Goals as goal

at_value : (l : List ℕ) (i a : ℕ) → get_elem? l i ≡ some a → get_or l i 0 ≡ a
at_value [] i a e = absurd (some-ne-none a (sym e))
at_value (x ∷ xs) zero a e = some-injective x a e
at_value (x ∷ xs) (suc i) a e = at_value xs i a e

pub loop-at-preserved : goal.loop-at-preserved
loop-at-preserved c =
    let words : List ℕ = slots_items c.args.closed.now.words in
    let n : ℕ = c.loop-at.at in
    let k : ℕ = c.args.array.0 in
    let y : List (List ℤ) = c.loop-at.into in
    let l = c.loop-at-test.true in
    let room = c.requires.room in
    let v : ℤ = value_of (word_of c.cast_signed-value.result) in
    let stored : value_of c.word.result ≡ v = search rules in
    let value : v ≡ value_of (get_or words (c.args.span.first + n) 0) = sym stored ∙ ap value_of (sym (at_value words (c.args.span.first + n) c.word.result c.word.ensures)) in
    let written : c.write.new.self ≡ set y k (set (list_of y k) n v) = search rules in
    subst (AreCopied words c.args.span.first (n + 1) k c.args.into.now) (sym written) (one_more_copied words c.args.span.first n k c.args.into.now y v c.loop-at.invariant (omega arith) value)
