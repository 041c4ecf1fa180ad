use Rattle.wave_main.proofs.AnswerLaws.{one_text_of}
use Rattle.wave_main.proofs.laws.a_command_has_one_text.Goals as goal

pub returns : goal.returns
returns c = one_text_of
