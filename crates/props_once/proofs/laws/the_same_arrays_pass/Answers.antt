use Rattle.index_props.specs.Meanings.{Means}
use Rattle.props_once.proofs.Kept.{all-once, once-all}
use Rattle.props_once.proofs.laws.the_same_arrays_pass.Goals as goal

pub returns : goal.returns
returns c props a = (once-all (Means a) props, all-once (Means a) props)
