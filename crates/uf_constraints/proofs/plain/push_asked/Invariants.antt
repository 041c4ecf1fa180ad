use Rattle.std.proofs.Common.{◌≡◌, ◌++◌, take}
use Rattle.std.specs.List.{flat_map}
use Rattle.uf_constraints.specs.Universe.{asked_by}
use Rattle.uf_constraints.proofs.plain.push_asked.Given as goal

abbrev pub invariant-loop-prop : goal.invariant-loop-prop
invariant-loop-prop l = l.into ≡ l.fn.into ++ flat_map (asked_by l.atom) (take l.prop-index l.props)
