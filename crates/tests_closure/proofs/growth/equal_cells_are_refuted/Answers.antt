use Rattle.std.proofs.Common.{List, subst}
use Rattle.loop_core.specs.declared.nest.Atom.{Atom}
use Rattle.bound_close.specs.Over.{AreOver, AreRulesOver}
use Rattle.tests_closure.proofs.growth.equal_cells_are_refuted.Goals as goal

pub refuted_at_last-requires-clause-base : goal.refuted_at_last-requires-clause-base
refuted_at_last-requires-clause-base c = subst (λ (u : List Atom). AreOver u c.as_slice-base.result.now) c.as_slice-atoms.ensures (c.are_over.ensures.yes c.if-not-are_over.false)

pub refuted_at_last-requires-clause-rules : goal.refuted_at_last-requires-clause-rules
refuted_at_last-requires-clause-rules c = subst (λ (u : List Atom). AreRulesOver u c.as_slice-rules.result.now) c.as_slice-atoms.ensures (c.are_rules_over.ensures.yes c.if-not-are_rules_over.false)
