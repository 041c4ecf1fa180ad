use Rattle.std.proofs.Common.{◌≡◌, ◌++◌, map, take}
use Rattle.std.specs.List.{flat_map}
use Rattle.index_props.specs.Entries.{of_array}
use Rattle.index_props.specs.Rules.{pair_instance}
use Rattle.index_props.specs.declared.rule.PairLine.TheVariants.{Equal}
use Rattle.props_plain.proofs.pairs.push_equal.Given as goal

abbrev pub invariant-loop-s : goal.invariant-loop-s
invariant-loop-s l = l.into ≡ l.fn.into ++ flat_map (λ s. map (pair_instance Equal s) (of_array s.array l.es)) (take l.s-index l.es)
