use Rattle.std.proofs.Common.{List, subst}
use Rattle.loop_core.specs.declared.nest.Atom.{Atom}
use Rattle.bound_close.specs.Over.{AreOver, AreRulesOver}
use Rattle.tests_closure.proofs.growth.agrees.Goals as goal

pub alike_in_any_order-requires-clause-base : goal.alike_in_any_order-requires-clause-base
alike_in_any_order-requires-clause-base c = subst (λ (u : List Atom). AreOver u c.as_slice-base.result.now) c.as_slice-atoms.ensures (c.are_over.ensures.yes c.if-not-are_over.false)

pub alike_in_any_order-requires-clause-rules : goal.alike_in_any_order-requires-clause-rules
alike_in_any_order-requires-clause-rules c = subst (λ (u : List Atom). AreRulesOver u c.as_slice-rules.result.now) c.as_slice-atoms.ensures (c.are_rules_over.ensures.yes c.if-not-are_rules_over.false)
