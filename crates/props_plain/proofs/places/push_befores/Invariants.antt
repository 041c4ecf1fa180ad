use Rattle.std.proofs.Common.{◌≡◌, ◌++◌, take}
use Rattle.std.specs.List.{flat_map}
use Rattle.index_props.specs.Entries.{of_array}
use Rattle.index_props.specs.Rules.{before_at}
use Rattle.props_plain.proofs.places.push_befores.Given as goal

abbrev pub invariant-loop-e : goal.invariant-loop-e
invariant-loop-e l = l.into ≡ l.fn.into ++ flat_map (before_at l.decls l.g l.es) (of_array l.f (take l.e-index l.es))
