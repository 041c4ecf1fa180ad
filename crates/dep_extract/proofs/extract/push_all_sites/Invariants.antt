use Rattle.std.proofs.Common.{◌≡◌, ◌++◌, take}
use Rattle.std.specs.List.{flat_map}
use Rattle.uf_constraints.specs.Relations.{sites_on}
use Rattle.dep_extract.proofs.extract.push_all_sites.Given as goal

abbrev pub invariant-loop-spot : goal.invariant-loop-spot
invariant-loop-spot l = l.into ≡ l.fn.into ++ flat_map (sites_on l.nest) (take l.spot-index l.spots)
