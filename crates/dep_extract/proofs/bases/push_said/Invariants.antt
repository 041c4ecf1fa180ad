use Rattle.std.proofs.Common.{◌≡◌, ◌++◌, take}
use Rattle.std.specs.List.{flat_map}
use Rattle.uf_constraints.specs.Bases.{said_by}
use Rattle.dep_extract.proofs.bases.push_said.Given as goal

abbrev pub invariant-loop-one : goal.invariant-loop-one
invariant-loop-one l = l.into ≡ l.fn.into ++ flat_map (said_by l.side) (take l.one-index l.around)
