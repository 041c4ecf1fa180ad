use Rattle.loop_print.specs.PrintText.{nest_text}
use Rattle.loop_laws.proofs.ShownNest.{nest_text_is_shown}
use Rattle.loop_laws.proofs.BackLaws.{text_reads_back}
use Rattle.loop_laws.proofs.laws.printed_text_reads_back.Goals as goal

pub returns : goal.returns
returns c = λ ls nest read short. text_reads_back ls nest (nest_text nest) (nest_text_is_shown ls nest read) read short
