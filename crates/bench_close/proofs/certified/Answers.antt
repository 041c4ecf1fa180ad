use Rattle.std.proofs.Common.{List, subst, sym}
use Rattle.uf_constraints.specs.declared.system.Diff.{Diff}
use Rattle.index_props.specs.declared.rule.RuleInst.{RuleInst}
use Rattle.bound_close.specs.Over.{AreOver, AreRulesOver}
use Rattle.bench_close.proofs.certified.Goals as goal

pub close-requires-clause-base : goal.close-requires-clause-base
close-requires-clause-base c = subst (λ (base : List Diff). AreOver c.args.listing.now.universe.atoms base) (sym c.as_slice-base.ensures) c.requires.base

pub close-requires-clause-rules : goal.close-requires-clause-rules
close-requires-clause-rules c = subst (λ (rules : List RuleInst). AreRulesOver c.args.listing.now.universe.atoms rules) (sym c.as_slice-rules.ensures) c.requires.rules
