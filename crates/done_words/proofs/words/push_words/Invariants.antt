use Rattle.std.proofs.Common.{◌≡◌, ◌++◌, map, take}
use Rattle.std.specs.Int.{w64, cast_unsigned}
use Rattle.done_words.proofs.words.push_words.Given as goal

abbrev pub invariant-loop-value : goal.invariant-loop-value
invariant-loop-value l = l.onto.items ≡ l.initial.onto.items ++ map (λ z. cast_unsigned w64 z) (take l.value-index l.values)
