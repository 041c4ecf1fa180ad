use Rattle.std.proofs.lemmas.Option.{slice_get_within}
use Rattle.core_rows.specs.Locals.{row_of}
use Rattle.core_rows.proofs.Agree.{long_before, long_with}
use Rattle.core_rows.proofs.laws.registers_are_those_read.Goals as goal

pub returns : goal.returns
returns c = λ r i j d e. record { earlier = long_before r i j (slice_get_within (row_of r i) j d e); own = long_with r i j d e }
