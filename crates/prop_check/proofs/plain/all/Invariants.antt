use Rattle.std.proofs.Common.{◌≡◌, take}
use Rattle.index_props.specs.Meanings.{Passes}
use Rattle.prop_check.proofs.plain.all.Given as goal

abbrev pub invariant-loop-prop : goal.invariant-loop-prop
invariant-loop-prop g l = (l.property ≡ l.prop-index) × Passes (take l.prop-index l.props) l.arrays
