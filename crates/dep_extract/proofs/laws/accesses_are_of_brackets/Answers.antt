use Rattle.dep_extract.proofs.OfBrackets.{from_bracket}
use Rattle.dep_extract.proofs.laws.accesses_are_of_brackets.Goals as goal

pub returns : goal.returns
returns c nest a is_nest i p below access = from_bracket nest a is_nest i p below access
