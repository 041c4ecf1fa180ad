use Rattle.rule_laws.proofs.AllOver.{all_over}
use Rattle.rule_laws.proofs.laws.instances_are_over.Goals as goal

pub returns : goal.returns
returns c = λ decls props atoms names closed. all_over decls atoms closed props names
