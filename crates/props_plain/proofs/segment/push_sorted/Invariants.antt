use Rattle.std.proofs.Common.{◌≡◌, ◌++◌, take}
use Rattle.std.specs.List.{flat_map}
use Rattle.index_props.specs.Entries.{of_array}
use Rattle.index_props.specs.Rules.{segments, sorted_from, order}
use Rattle.props_plain.proofs.segment.push_sorted.Given as goal

abbrev pub invariant-loop-s : goal.invariant-loop-s
invariant-loop-s l = l.into ≡ l.fn.into ++ flat_map (sorted_from (order l.strict l.back) (segments l.decls l.p l.es) (of_array l.f l.es)) (of_array l.f (take l.s-index l.es))
