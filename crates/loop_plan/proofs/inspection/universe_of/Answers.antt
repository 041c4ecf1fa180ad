use Rattle.std.proofs.Common.{List, subst}
use Rattle.uf_constraints.specs.declared.system.Diff.{Diff}
use Rattle.uf_constraints.specs.Over.{AllOver}
use Rattle.loop_plan.proofs.inspection.universe_of.Goals as goal

pub returns-in-Ok-clause-over : goal.returns-in-Ok-clause-over
returns-in-Ok-clause-over c = subst (λ (b : List Diff). AllOver c.in-Ok.u.atoms b) c.as_slice.ensures c.in-Ok.ensures.over
