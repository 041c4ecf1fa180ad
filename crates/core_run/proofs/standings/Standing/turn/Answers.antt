use Rattle.core_run.proofs.Stood.{nothing_applied}
use Rattle.core_run.proofs.standings.Standing.turn.Goals as goal

pub returns-then-begins-clause-caught : goal.returns-then-begins-clause-caught
returns-then-begins-clause-caught c = λ book hows caught. nothing_applied book hows _ _ c.begin-self.ensures.count c.begin-self.ensures.begun
