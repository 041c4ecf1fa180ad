use Rattle.std.proofs.Common.{◌≡◌, ◌++◌, take}
use Rattle.std.specs.List.{flat_map}
use Rattle.uf_constraints.specs.Relations.{related}
use Rattle.dep_extract.proofs.extract.push_relations.Given as goal

abbrev pub invariant-loop-second : goal.invariant-loop-second
invariant-loop-second l = l.into ≡ l.fn.into ++ flat_map (related l.nest l.first) (take l.second-index l.sites)
