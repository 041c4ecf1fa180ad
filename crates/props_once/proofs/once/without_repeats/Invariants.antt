use Rattle.std.proofs.Common.{◌≡◌, take}
use Rattle.props_once.specs.Repeats.{without_repeats as each_once}
use Rattle.props_once.proofs.once.without_repeats.Given as goal

abbrev pub invariant-loop-prop : goal.invariant-loop-prop
invariant-loop-prop l = l.kept ≡ each_once (take l.prop-index l.props)
