use Rattle.std.proofs.Common.{ap, ◌∙◌}
use Rattle.core_machine.specs.Machine.{Machine}
use Rattle.tests_core.proofs.events.begin.Goals as goal

pub returns : goal.returns
returns c = ap (λ (m : Machine). m.work) c.in_ok-core.ensures ∙ c.requires.work
