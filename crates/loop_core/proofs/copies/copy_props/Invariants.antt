use Rattle.std.proofs.Common.{◌≡◌, take}
use Rattle.loop_core.proofs.copies.copy_props.Given as goal

abbrev pub invariant-loop-prop : goal.invariant-loop-prop
invariant-loop-prop l = l.copy ≡ take l.prop-index l.props
