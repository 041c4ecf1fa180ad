use Rattle.std.proofs.Common.{◌≡◌, take}
use Rattle.wave_main.specs.Demo.{total}
use Rattle.wave_main.proofs.demo.total.Given as goal

-- the sum of the words so far
abbrev pub invariant-loop-word : goal.invariant-loop-word
invariant-loop-word l = l.sum ≡ total (take l.word-index l.words)
