use Rattle.std.proofs.Common.{arith, ◌≡◌, ◌++◌, ◌∷◌, [], ℕ, List, map, length, add-one, sym, ap, ◌∙◌}
use Rattle.core_machine.specs.declared.work.Work.{Work}
use Rattle.done_words.specs.WordsOf.{word_of, own_list, span_from, spans_below}
use Rattle.done_words.proofs.Listed.{words_below, words_next, spans_next, words_whole, spans_whole}
use Rattle.done_words.proofs.layout.Layout.of.Goals as goal

pub loop-array-preserved : goal.loop-array-preserved
loop-array-preserved c =
    let w : Work = c.args.work.now in
    let k : ℕ = c.loop-array.array in
    let h = c.loop-array.invariant in
    let e = c.in_ok-add.ensures in
    let l = c.loop-array-test.true in (
      e.words ∙ (ap (λ (z : List ℕ). z ++ map word_of (own_list w k)) h.0 ∙ (words_next w k ∙ ap (words_below w) (sym (add-one k)))),
      e.spans ∙ ((λ i. h.1 i ++ span_from w (length (h.0 i)) k ∷ []) ∙ (spans_next w k (omega arith) ∙ ap (spans_below w) (sym (add-one k)))),
    )

pub returns-clause-words : goal.returns-clause-words
returns-clause-words c =
    let at_end = c.loop-array.auto.array-end in
    let past = c.loop-array-test.false in
    let is : c.loop-array.array ≡ 64 = omega arith in
    c.loop-array.invariant.0 ∙ (ap (words_below c.args.work.now) is ∙ words_whole c.args.work.now)

pub returns-clause-spans : goal.returns-clause-spans
returns-clause-spans c =
    let at_end = c.loop-array.auto.array-end in
    let past = c.loop-array-test.false in
    let is : c.loop-array.array ≡ 64 = omega arith in
    c.loop-array.invariant.1 ∙ (ap (spans_below c.args.work.now) is ∙ spans_whole c.args.work.now)
