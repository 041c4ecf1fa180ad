use Rattle.std.proofs.Common.{ℕ, List, ◌∙◌, ap, arith}
use Rattle.std.proofs.lemmas.Bool.Decides.{nat_tests}
use Rattle.text_base.specs.Words.{words}
use Rattle.mtx_read.specs.Reading.{line_is}
use Rattle.mtx_read.specs.Entry.{entry}
use Rattle.mtx_read.proofs.Clamps.{pattern_is, integer_is}
use Rattle.mtx_read.proofs.entry.line_by_words.Goals as goal

pub returns-else-is_some : goal.returns-else-is_some
returns-else-is_some c =
    let w = pattern_is c.args.shape.now _ _ _ c.in-Some.first.now c.in-Some-next_word.second.now c.next_word-in-Pattern.result _ (omega arith) (omega arith) c.in-Pattern.is c.in-Some.ensures.words c.in-Some-next_word.ensures.words c.next_word-in-Pattern.ensures.words (grind (arith, nat_tests)) c.if-first-eq37.false in
    c.value.ensures ∙ rw (c.integer.ensures, c.integer-in-Pattern.ensures) (w ∙ ap (λ (l : List ℕ). line_is (entry c.args.shape.now) (words l)) c.trim_line.ensures)

pub returns-else-is_some-2 : goal.returns-else-is_some-2
returns-else-is_some-2 c =
    let w = integer_is c.args.shape.now _ _ _ _ c.in-Some.first.now c.in-Some-next_word.second.now c.in-Some-next_word-2.third.now c.next_word-in-Integer-2.result _ (omega arith) (omega arith) c.in-Integer.is c.in-Some.ensures.words c.in-Some-next_word.ensures.words c.in-Some-next_word-2.ensures.words c.next_word-in-Integer-2.ensures.words (grind (arith, nat_tests)) c.if-first-eq37.false in
    c.value-in-Integer.ensures ∙ rw (c.integer-in-Integer.ensures, c.integer-in-Integer-2.ensures, c.integer-in-Integer-3.ensures) (w ∙ ap (λ (l : List ℕ). line_is (entry c.args.shape.now) (words l)) c.trim_line.ensures)
