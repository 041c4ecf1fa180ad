use Rattle.std.proofs.Common.{arith}
use Rattle.std.proofs.lemmas.Bool.Decides.{nat_tests}
use Rattle.text_base.specs.Lines.{lines}
use Rattle.wave_main.proofs.FewLaws.{few_properties}
use Rattle.wave_main.proofs.loops.nest_of.Goals as goal

pub returns-in-Ok-clause-few_properties : goal.returns-in-Ok-clause-few_properties
returns-in-Ok-clause-few_properties c =
    few_properties c.args.bytes.now c.in-Ok.nest (grind (arith, nat_tests, c.if-bytes-gt65536.false)) c.in-Ok.ensures.grammar

pub returns-in-Ok-clause-nest : goal.returns-in-Ok-clause-nest
returns-in-Ok-clause-nest c = c.what_is_read_is_a_nest.ensures (lines c.args.bytes.now) c.in-Ok.nest c.in-Ok.ensures.answer
