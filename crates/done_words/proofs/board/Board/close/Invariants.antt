use Rattle.std.specs.Slots.{slots_items}
use Rattle.done_words.proofs.Closing.{CopiedTo}
use Rattle.done_words.proofs.board.Board.close.Given as goal

abbrev pub invariant-loop-array : goal.invariant-loop-array
invariant-loop-array l = CopiedTo l.fn.self.words.shared.key.value (slots_items l.closed.words) l.array l.initial.into l.into
