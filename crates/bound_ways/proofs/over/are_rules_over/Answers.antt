use Rattle.std.proofs.Common.{arith, sym}
use Rattle.bound_ways.specs.Over.{IsRuleOver}
use Rattle.bound_ways.proofs.Prefix.{each-more, each-all}
use Rattle.bound_ways.proofs.over.are_rules_over.Goals as goal

pub loop-rule-preserved : goal.loop-rule-preserved
loop-rule-preserved c = each-more (IsRuleOver c.args.atoms.now) c.args.rules.now c.loop-rule.rule-index c.rule-item.result (omega arith) c.loop-rule.invariant (rw (← c.rule-item.is) (c.is_rule_over.ensures.yes c.if-not-is_rule_over.false))

pub returns-clause-yes : goal.returns-clause-yes
returns-clause-yes c = λ _. each-all (IsRuleOver c.args.atoms.now) c.args.rules.now c.loop-rule.rule-index (omega arith) c.loop-rule.invariant

pub returns-then-not-is_rule_over-clause-no : goal.returns-then-not-is_rule_over-clause-no
returns-then-not-is_rule_over-clause-no c = λ _ all. c.is_rule_over.ensures.no c.if-not-is_rule_over.true (all c.rule-item.result (c.loop-rule.rule-index, omega arith, sym c.rule-item.is))
