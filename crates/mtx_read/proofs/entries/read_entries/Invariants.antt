use Rattle.std.proofs.Common.{◌+◌, ◌≤◌, length}
use Rattle.text_base.specs.Lines.{lines}
use Rattle.mtx_read.specs.Reading.{kept}
use Rattle.mtx_read.specs.Entry.{entry, mirrored}
use Rattle.mtx_read.proofs.Rows.{Progress}
use Rattle.mtx_read.proofs.entries.read_entries.Given as goal

abbrev pub invariant-loop-rest : goal.invariant-loop-rest
invariant-loop-rest l =
    record {
      so_far : Progress (entry l.shape) (mirrored l.shape.symmetry) l.shape.stored (kept l.fn.first (lines l.fn.bytes)) l.have l.triples.items l.line l.rest;
      room : l.line + length l.rest ≤ l.fn.first + length l.fn.bytes;
    }

abbrev pub decreases-loop-rest : goal.decreases-loop-rest
decreases-loop-rest l = length l.rest
