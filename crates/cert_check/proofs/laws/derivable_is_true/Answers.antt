use Rattle.std.proofs.Common.{refl}
use Rattle.index_props.specs.Rules.{instances_of}
use Rattle.cert_check.proofs.Truth.{true_for}
use Rattle.cert_check.proofs.laws.derivable_is_true.Goals as goal

pub returns : goal.returns
returns c = λ u base decls props d names h. true_for u base (instances_of decls props u) decls props names refl d h
