use Rattle.std.proofs.Common.{◌≡◌, ◌++◌, take}
use Rattle.std.specs.List.{flat_map}
use Rattle.index_props.specs.Entries.{of_array}
use Rattle.index_props.specs.Rules.{diagonal_at}
use Rattle.props_plain.proofs.places.push_diagonals.Given as goal

abbrev pub invariant-loop-e : goal.invariant-loop-e
invariant-loop-e l = l.into ≡ l.fn.into ++ flat_map (diagonal_at l.decls l.f l.p l.es) (of_array l.d (take l.e-index l.es))
