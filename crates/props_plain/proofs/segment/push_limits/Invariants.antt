use Rattle.std.proofs.Common.{◌≡◌, ◌++◌, map, take}
use Rattle.std.specs.List.{flat_map}
use Rattle.index_props.specs.Entries.{of_array}
use Rattle.index_props.specs.Rules.{segments, limit_instance}
use Rattle.props_plain.proofs.segment.push_limits.Given as goal

abbrev pub invariant-loop-e : goal.invariant-loop-e
invariant-loop-e l = l.into ≡ l.fn.into ++ flat_map (λ s. map (limit_instance l.strict s) (segments l.decls l.p l.es)) (of_array l.f (take l.e-index l.es))
