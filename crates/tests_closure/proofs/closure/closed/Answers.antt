use Rattle.std.proofs.Common.{List, subst}
use Rattle.loop_core.specs.declared.nest.Atom.{Atom}
use Rattle.bound_close.specs.Over.{AreOver, AreRulesOver}
use Rattle.tests_closure.proofs.closure.closed.Goals as goal

pub close-requires-clause-base : goal.close-requires-clause-base
close-requires-clause-base c = subst (λ (u : List Atom). AreOver u c.as_slice-base.result.now) c.as_slice-atoms.ensures (c.are_over.ensures.yes c.if-not-are_over.false)

pub close-requires-clause-rules : goal.close-requires-clause-rules
close-requires-clause-rules c = subst (λ (u : List Atom). AreRulesOver u c.as_slice-rules.result.now) c.as_slice-atoms.ensures (c.are_rules_over.ensures.yes c.if-not-are_rules_over.false)

pub close-requires-2-clause-base : goal.close-requires-2-clause-base
close-requires-2-clause-base c = subst (λ (u : List Atom). AreOver u c.as_slice-base.result.now) c.as_slice-atoms.ensures (c.are_over.ensures.yes c.if-not-are_over.false)

pub close-requires-2-clause-rules : goal.close-requires-2-clause-rules
close-requires-2-clause-rules c = subst (λ (u : List Atom). AreRulesOver u c.as_slice-rules.result.now) c.as_slice-atoms.ensures (c.are_rules_over.ensures.yes c.if-not-are_rules_over.false)
