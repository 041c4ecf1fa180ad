use Rattle.std.proofs.Common.{◌≡◌, ◌++◌, take}
use Rattle.std.specs.List.{flat_map}
use Rattle.uf_constraints.specs.Relations.{related}
use Rattle.dep_extract.proofs.extract.push_all_relations.Given as goal

abbrev pub invariant-loop-first : goal.invariant-loop-first
invariant-loop-first l = l.into ≡ l.fn.into ++ flat_map (λ s. flat_map (related l.nest s) l.sites) (take l.first-index l.sites)
