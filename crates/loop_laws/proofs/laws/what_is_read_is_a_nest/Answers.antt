use Rattle.loop_laws.proofs.NestRead.{is_nest}
use Rattle.loop_laws.proofs.laws.what_is_read_is_a_nest.Goals as goal

pub returns : goal.returns
returns c = λ ls nest read. is_nest ls nest read
