use Rattle.std.proofs.Common.{◌≡◌, ◌++◌, map, take}
use Rattle.index_props.specs.Entries.{of_array}
use Rattle.index_props.specs.Rules.{range_instance}
use Rattle.props_plain.proofs.places.push_ranges.Given as goal

abbrev pub invariant-loop-e : goal.invariant-loop-e
invariant-loop-e l = l.into ≡ l.fn.into ++ map (range_instance l.lo l.hi) (of_array l.f (take l.e-index l.es))
