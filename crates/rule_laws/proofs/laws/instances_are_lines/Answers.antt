use Rattle.rule_laws.proofs.Every.{instances_are}
use Rattle.rule_laws.proofs.laws.instances_are_lines.Goals as goal

pub returns : goal.returns
returns c = λ decls props atoms. instances_are decls atoms props
