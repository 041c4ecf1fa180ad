use Rattle.std.proofs.Common.{◌≡◌, ◌+◌, ◌*◌, ◌≤◌, ◌++◌, length}
use Rattle.std.specs.List.{All}
use Rattle.wave_main.specs.Pieces.{texts_of, IsShort}
use Rattle.wave_main.specs.Status.{spaced}
use Rattle.wave_main.proofs.line.line_of.Given as goal

-- what stands, and what is left to put
abbrev pub invariant-loop-word : goal.invariant-loop-word
invariant-loop-word l = record {
  whole : l.line.bytes ++ spaced (texts_of l.rest) ≡ spaced (texts_of l.fn.words);
  room : length l.line.bytes + 21 * length l.rest ≤ 126;
  short : All IsShort l.rest;
}

abbrev pub decreases-loop-word : goal.decreases-loop-word
decreases-loop-word l = length l.rest
