use Rattle.std.proofs.Common.{arith, ◌≡◌, ℕ, List, length, add-one, sym, ap, subst}
use Rattle.std.specs.Slots.{slots_items}
use Rattle.core_machine.specs.declared.work.Work.{Work}
use Rattle.done_words.specs.declared.layout.Span.{Span}
use Rattle.done_words.specs.WordsOf.{span}
use Rattle.done_words.specs.Copied.{AreCopied}
use Rattle.done_words.proofs.Listed.{spans_count, span_is}
use Rattle.done_words.proofs.Closing.{CopiedTo, next_array, span_inside, span_fits, ending, is_closed}
use Rattle.done_words.proofs.board.Board.close.Goals as goal

pub index-requires : goal.index-requires
index-requires c =
    let b = c.args.self in
    let e = ap (λ (l : List Span). length l) b.spanned in
    let n = spans_count b.words.shared.key.value in
    let l = c.loop-array-test.true in
    omega arith

pub copy_array-requires-clause-words : goal.copy_array-requires-clause-words
copy_array-requires-clause-words c = λ at below.
    let b = c.args.self in
    let w : Work = b.words.shared.key.value in
    let k : ℕ = c.loop-array.array in
    let l = c.loop-array-test.true in
    let is : c.index.result.now ≡ span w k = span_is w b.spans.items k c.index.result.now b.spanned c.index.ensures (omega arith) in
    let size = ap (λ (s : Span). s.size) is in
    let first = ap (λ (s : Span). s.first) is in
    let inside = span_inside w b.sound k at (omega arith) (omega arith) in
    let z = b.sized in
    let count = c.close_with-closed.ensures.counts in
    omega arith

pub copy_array-requires-clause-room : goal.copy_array-requires-clause-room
copy_array-requires-clause-room c =
    let b = c.args.self in
    let w : Work = b.words.shared.key.value in
    let k : ℕ = c.loop-array.array in
    let l = c.loop-array-test.true in
    let is : c.index.result.now ≡ span w k = span_is w b.spans.items k c.index.result.now b.spanned c.index.ensures (omega arith) in
    let size = ap (λ (s : Span). s.size) is in
    let fits = span_fits w b.sound k c.args.into.now c.requires.room in
    let long = c.loop-array.invariant.longs k in
    omega arith

pub loop-array-preserved : goal.loop-array-preserved
loop-array-preserved c =
    let b = c.args.self in
    let w : Work = b.words.shared.key.value in
    let k : ℕ = c.loop-array.array in
    let l = c.loop-array-test.true in
    let words : List ℕ = slots_items c.close_with-closed.result.words in
    let is : c.index.result.now ≡ span w k = span_is w b.spans.items k c.index.result.now b.spanned c.index.ensures (omega arith) in
    let one = subst (λ (s : Span). AreCopied words s.first s.size k c.loop-array.into c.copy_array.new.into) is c.copy_array.ensures in
    subst (λ (n : ℕ). CopiedTo w words n c.args.into.now c.copy_array.new.into) (sym (add-one k))
    (next_array w words k c.args.into.now c.loop-array.into c.copy_array.new.into (omega arith) c.loop-array.invariant one)

pub returns : goal.returns
returns c =
    let b = c.args.self in
    let w : Work = b.words.shared.key.value in
    let s = c.args.main in
    let words : List ℕ = slots_items c.close_with-closed.result.words in
    let past = c.loop-array-test.false in
    let at_end = c.loop-array.auto.array-end in
    let is : c.loop-array.array ≡ 64 = omega arith in
    let end = ending w s.seat.id s.seat.me.0 words (slots_items c.close_with-closed.result.slots) s.is c.requires.all c.close_with-closed.ensures.values.2 in
    is_closed w b.sound words end c.ends_are_as_in_the_loop.ensures c.args.into.now c.loop-array.into c.requires.room
    (subst (λ (n : ℕ). CopiedTo w words n c.args.into.now c.loop-array.into) is c.loop-array.invariant)
