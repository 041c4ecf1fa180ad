use Rattle.std.proofs.Common.{inl, inr}
use Rattle.wave_main.proofs.WordLaws.{not_true}
use Rattle.wave_main.proofs.top.wave_main.Goals as goal

pub returns-clause-answer : goal.returns-clause-answer
returns-clause-answer g c = c.quiet_main.ensures.answer (λ others. elim others [
  | inl run ↦ not_true _ c.if-begins.false (c.begins.ensures.1 run)
  | inr demo ↦ not_true _ c.if-begins-2.false (c.begins-else-begins.ensures.1 demo)
])

pub returns-then-begins-clause-ordered : goal.returns-then-begins-clause-ordered
returns-then-begins-clause-ordered g c files are work is = c.sound_works_keep_order.ensures work is.1.sound

pub returns-then-begins-clause-goes_on : goal.returns-then-begins-clause-goes_on
returns-then-begins-clause-goes_on g c files are work is = c.sound_works_go_on.ensures work is.1.sound

pub returns-clause-ordered : goal.returns-clause-ordered
returns-clause-ordered g c files are work is = c.sound_works_keep_order.ensures work is.1.sound

pub returns-clause-goes_on : goal.returns-clause-goes_on
returns-clause-goes_on g c files are work is = c.sound_works_go_on.ensures work is.1.sound
