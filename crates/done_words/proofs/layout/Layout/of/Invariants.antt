use Rattle.std.proofs.Common.{◌≡◌}
use Rattle.done_words.specs.WordsOf.{spans_below}
use Rattle.done_words.proofs.Listed.{words_below}
use Rattle.done_words.proofs.layout.Layout.of.Given as goal

abbrev pub invariant-loop-array : goal.invariant-loop-array
invariant-loop-array l = (l.layout.words.items ≡ words_below l.work l.array) × (l.layout.spans.items ≡ spans_below l.work l.array)
