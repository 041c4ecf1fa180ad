use Rattle.std.proofs.Common.{◌≡◌, ◌++◌, map, take}
use Rattle.index_props.specs.Entries.{of_array}
use Rattle.index_props.specs.Rules.{pair_instance}
use Rattle.props_plain.proofs.pairs.push_pairs_with.Given as goal

abbrev pub invariant-loop-t : goal.invariant-loop-t
invariant-loop-t l = l.into ≡ l.fn.into ++ map (pair_instance l.line l.s) (of_array l.f (take l.t-index l.es))
