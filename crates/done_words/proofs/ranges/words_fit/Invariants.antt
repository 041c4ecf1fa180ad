use Rattle.std.proofs.Common.{w64, ℕ, pos, ◌<◌, get_or}
use Rattle.std.specs.Prelude.{FitsSigned}
use Rattle.done_words.proofs.ranges.words_fit.Given as goal

abbrev pub invariant-loop-word : goal.invariant-loop-word
invariant-loop-word l = (at : ℕ) → at < l.word-index → FitsSigned w64 (get_or l.words at (pos 0))
