use Rattle.std.proofs.Common.{◌≡◌, take}
use Rattle.std.specs.List.{filter_map}
use Rattle.loop_meaning.specs.Accesses.{cell_of}
use Rattle.loop_meaning.proofs.places.cells_at.Given as goal

abbrev pub invariant-loop-place : goal.invariant-loop-place
invariant-loop-place l = l.cells.items ≡ filter_map (cell_of l.arrays l.nest) (take l.place-index l.places)
