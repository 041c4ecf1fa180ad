use Rattle.std.proofs.Common.{take}
use Rattle.bound_ways.specs.Over.{AreRulesOver}
use Rattle.bound_ways.proofs.over.are_rules_over.Given as goal

abbrev pub invariant-loop-rule : goal.invariant-loop-rule
invariant-loop-rule l = AreRulesOver l.atoms (take l.rule-index l.rules)
