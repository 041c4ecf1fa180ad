use Rattle.std.proofs.Common.{◌≡◌, ◌++◌, take}
use Rattle.std.specs.List.{flat_map}
use Rattle.index_props.specs.Rules.{property_instances}
use Rattle.props_plain.proofs.listing.push_properties.Given as goal

abbrev pub invariant-loop-prop : goal.invariant-loop-prop
invariant-loop-prop l = l.into ≡ l.fn.into ++ flat_map (λ p. property_instances l.decls l.es p.kind) (take l.prop-index l.props)
