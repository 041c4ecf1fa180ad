use Rattle.std.proofs.Common.{take}
use Rattle.index_props.specs.Within.{AllBoundsWithin}
use Rattle.index_props.proofs.small.are_bounds_small.Given as goal

abbrev pub invariant-loop-prop : goal.invariant-loop-prop
invariant-loop-prop l = AllBoundsWithin (take l.prop-index l.props)
