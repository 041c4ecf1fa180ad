use Rattle.std.proofs.Common.{arith}
use Rattle.wave_gen.specs.Lower.{lower_entries}
use Rattle.wave_gen.proofs.Files.{text_read}
use Rattle.wave_gen.proofs.Drawn.{lower_are, lower_long}
use Rattle.wave_gen.proofs.laws.lower_is_read.Goals as goal

pub returns : goal.returns
returns c = λ n seed some few. text_read _ _ (lower_entries n seed) few (omega arith) (lower_long n seed some) (lower_are n seed)
