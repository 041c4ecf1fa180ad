use Rattle.std.specs.Slots.{slots_items}
use Rattle.done_words.specs.Copied.{AreCopied}
use Rattle.done_words.proofs.copying.copy_array.Given as goal

abbrev pub invariant-loop-at : goal.invariant-loop-at
invariant-loop-at l = AreCopied (slots_items l.closed.words) l.span.first l.at l.array.0 l.initial.into l.into
