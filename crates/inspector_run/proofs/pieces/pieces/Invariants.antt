use Rattle.std.proofs.Common.{◌≡◌, ◌++◌, flat_map}
use Rattle.loop_core.specs.Instances.{trips}
use Rattle.inspector_run.specs.Pieces.{values_in, IsHeld}
use Rattle.inspector_run.proofs.pieces.pieces.Given as goal

-- the pieces so far and what is left are the whole
abbrev pub invariant-loop-rest : goal.invariant-loop-rest
invariant-loop-rest l = record {
  held : IsHeld l.rest;
  parts : flat_map values_in l.pieces.items ++ values_in l.rest ≡ values_in l.fn.whole;
}

abbrev pub decreases-loop-rest : goal.decreases-loop-rest
decreases-loop-rest l = trips l.rest.next l.rest.end
