use Rattle.std.proofs.Common.{◌≡◌, ◌++◌, take}
use Rattle.std.specs.List.{flat_map}
use Rattle.index_props.specs.Rules.{sorted_from}
use Rattle.index_props.proofs.segment.push_sorted.Given as goal

abbrev pub invariant-loop-s : goal.invariant-loop-s
invariant-loop-s l = l.into ≡ l.fn.into ++ flat_map (sorted_from l.order l.gs l.es) (take l.s-index l.es)
