use Rattle.std.proofs.Common.{List, subst}
use Rattle.loop_core.specs.declared.nest.Atom.{Atom}
use Rattle.bound_close.specs.Over.{AreOver, AreRulesOver}
use Rattle.tests_plans.proofs.letters.closed.Goals as goal

pub close-requires-clause-base : goal.close-requires-clause-base
close-requires-clause-base c = subst (λ (u : List Atom). AreOver u c.args.base.now) c.as_slice-atoms.ensures (c.are_over.ensures.yes c.if-not-are_over.false)

pub close-requires-clause-rules : goal.close-requires-clause-rules
close-requires-clause-rules c = subst (λ (u : List Atom). AreRulesOver u c.args.rules.now) c.as_slice-atoms.ensures (c.are_rules_over.ensures.yes c.if-not-are_rules_over.false)
