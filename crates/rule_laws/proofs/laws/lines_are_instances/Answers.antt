use Rattle.rule_laws.proofs.Complete.{instance-there}
use Rattle.rule_laws.proofs.laws.lines_are_instances.Goals as goal

pub returns : goal.returns
returns c = λ decls props atoms r h. instance-there decls atoms props r h
