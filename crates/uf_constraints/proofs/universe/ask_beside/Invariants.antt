use Rattle.std.proofs.Common.{◌≡◌, ◌+◌, ◌++◌, ◌^◌, take}
use Rattle.std.specs.List.{flat_map}
use Rattle.uf_constraints.specs.Constants.{IndexesWithin}
use Rattle.uf_constraints.specs.Universe.{asked_by}
use Rattle.uf_constraints.proofs.universe.ask_beside.Given as goal

abbrev pub invariant-loop-prop : goal.invariant-loop-prop
invariant-loop-prop l = (l.into ≡ l.fn.into ++ flat_map (asked_by l.atom) (take l.prop-index l.props)) × IndexesWithin (2 ^ 21 + 1) l.into
