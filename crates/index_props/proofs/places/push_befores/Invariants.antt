use Rattle.std.proofs.Common.{◌≡◌, ◌++◌, take}
use Rattle.std.specs.List.{flat_map}
use Rattle.index_props.specs.Rules.{before_at}
use Rattle.index_props.proofs.places.push_befores.Given as goal

abbrev pub invariant-loop-e : goal.invariant-loop-e
invariant-loop-e l = l.into ≡ l.fn.into ++ flat_map (before_at l.decls l.g l.es) (take l.e-index l.fs)
