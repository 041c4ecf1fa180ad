use Rattle.rule_laws.proofs.AllSound.{all_follow}
use Rattle.rule_laws.proofs.laws.instances_are_sound.Goals as goal

pub returns : goal.returns
returns c = λ decls props atoms names a env lengths passes. all_follow decls atoms props names a env lengths passes
