use Rattle.index_props.specs.Sound.{NamesIndexes}
use Rattle.index_props.specs.Within.{BoundsWithin}
use Rattle.props_once.proofs.Kept.{all-once}
use Rattle.props_once.proofs.laws.conditions_carry_over.Goals as goal

pub returns-clause-names : goal.returns-clause-names
returns-clause-names c decls props = all-once (NamesIndexes decls) props

pub returns-clause-bounds : goal.returns-clause-bounds
returns-clause-bounds c props = all-once BoundsWithin props
