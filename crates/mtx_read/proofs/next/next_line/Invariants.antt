use Rattle.std.proofs.Common.{◌≡◌, ◌+◌, ◌≤◌, length}
use Rattle.text_base.specs.Lines.{lines}
use Rattle.mtx_read.specs.Reading.{kept}
use Rattle.mtx_read.proofs.next.next_line.Given as goal

abbrev pub invariant-loop-rest : goal.invariant-loop-rest
invariant-loop-rest l =
    record {
      same : kept l.at (lines l.rest) ≡ kept l.fn.first (lines l.fn.bytes);
      count : l.at + length (lines l.rest) ≡ l.fn.first + length (lines l.fn.bytes);
      room : l.at + length l.rest ≤ l.fn.first + length l.fn.bytes;
    }

abbrev pub decreases-loop-rest : goal.decreases-loop-rest
decreases-loop-rest l = length l.rest
