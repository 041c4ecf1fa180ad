use Rattle.wave_main.proofs.AnswerLaws.{one_work}
use Rattle.wave_main.proofs.laws.words_and_files_determine_a_work.Goals as goal

pub returns : goal.returns
returns c = one_work
