use Rattle.std.proofs.Common.{◌∙◌}
use Rattle.inspector_gen.specs.Known.{constant}
use Rattle.inspector_gen.proofs.known.constant_between.Goals as goal

pub returns : goal.returns
returns c = λ bounds table. c.constant.ensures ∙ (λ i. constant (c.least-there.ensures bounds table i) (c.least-back.ensures bounds table i))
