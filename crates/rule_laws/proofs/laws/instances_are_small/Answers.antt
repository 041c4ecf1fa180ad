use Rattle.rule_laws.proofs.AllSmall.{all_small}
use Rattle.rule_laws.proofs.laws.instances_are_small.Goals as goal

pub returns : goal.returns
returns c = λ decls props atoms within bounds. all_small decls atoms within props bounds
