use Rattle.std.proofs.Common.{◌≡◌, ◌++◌, map, take}
use Rattle.index_props.specs.Rules.{range_instance}
use Rattle.index_props.proofs.places.push_ranges.Given as goal

abbrev pub invariant-loop-e : goal.invariant-loop-e
invariant-loop-e l = l.into ≡ l.fn.into ++ map (range_instance l.lo l.hi) (take l.e-index l.es)
