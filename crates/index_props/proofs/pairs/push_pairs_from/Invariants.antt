use Rattle.std.proofs.Common.{◌≡◌, ◌++◌, map, take}
use Rattle.index_props.specs.Rules.{pair_instance}
use Rattle.index_props.proofs.pairs.push_pairs_from.Given as goal

abbrev pub invariant-loop-t : goal.invariant-loop-t
invariant-loop-t l = l.into ≡ l.fn.into ++ map (pair_instance l.line l.s) (take l.t-index l.es)
