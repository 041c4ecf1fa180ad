use Rattle.inspector_gen.proofs.Tables.{own_bounds, own_table}
use Rattle.inspector_gen.proofs.laws.closures_have_tables.Goals as goal

pub returns : goal.returns
returns c nest r k own = (own_bounds nest r k own, own_table nest r k own)
