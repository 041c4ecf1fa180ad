use Rattle.std.proofs.Common.{◌≡◌, ◌++◌, map, take}
use Rattle.std.specs.List.{flat_map}
use Rattle.index_props.specs.Entries.{of_array}
use Rattle.index_props.specs.Rules.{segments, sorted_instance}
use Rattle.props_plain.proofs.segment.push_sorted_with.Given as goal

abbrev pub invariant-loop-t : goal.invariant-loop-t
invariant-loop-t l = l.into ≡ l.fn.into ++ flat_map (λ t. map (sorted_instance l.line l.s t) (segments l.decls l.p l.es)) (of_array l.f (take l.t-index l.es))
