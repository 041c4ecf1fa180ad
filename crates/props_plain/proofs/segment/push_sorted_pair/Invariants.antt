use Rattle.std.proofs.Common.{◌≡◌, ◌++◌, map, take}
use Rattle.std.specs.List.{flat_map}
use Rattle.index_props.specs.Entries.{of_array}
use Rattle.index_props.specs.Rules.{segment_from, sorted_instance}
use Rattle.props_plain.proofs.segment.push_sorted_pair.Given as goal

abbrev pub invariant-loop-u : goal.invariant-loop-u
invariant-loop-u l = l.into ≡ l.fn.into ++ map (sorted_instance l.line l.s l.t) (flat_map (segment_from l.decls l.p l.es) (of_array l.p (take l.u-index l.es)))
