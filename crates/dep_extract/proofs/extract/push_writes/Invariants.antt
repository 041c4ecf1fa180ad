use Rattle.std.proofs.Common.{◌≡◌, ◌++◌, take}
use Rattle.std.specs.List.{flat_map}
use Rattle.uf_constraints.specs.Relations.{write_site}
use Rattle.dep_extract.proofs.extract.push_writes.Given as goal

abbrev pub invariant-loop-bracket : goal.invariant-loop-bracket
invariant-loop-bracket l = l.into ≡ l.fn.into ++ flat_map (write_site l.spot) (take l.bracket-index l.spot.brackets)
