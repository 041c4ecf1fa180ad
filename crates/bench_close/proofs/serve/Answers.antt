use Rattle.std.proofs.Common.{List, subst}
use Rattle.loop_core.specs.declared.nest.Atom.{Atom}
use Rattle.uf_constraints.specs.declared.system.Diff.{Diff}
use Rattle.index_props.specs.declared.rule.RuleInst.{RuleInst}
use Rattle.bound_close.specs.Over.{AreOver, AreRulesOver}
use Rattle.bench_close.proofs.serve.Goals as goal

pub report-requires-clause-base : goal.report-requires-clause-base
report-requires-clause-base c =
    let h : AreOver c.as_slice-atoms.result.now c.as_slice.result.now = c.are_over.ensures.yes c.if-not-are_over.false in
    let i : AreOver c.in-Some.listing.universe.atoms c.as_slice.result.now = subst (λ (u : List Atom). AreOver u c.as_slice.result.now) c.as_slice-atoms.ensures h in
    subst (λ (base : List Diff). AreOver c.in-Some.listing.universe.atoms base) c.as_slice.ensures i

pub report-requires-clause-rules : goal.report-requires-clause-rules
report-requires-clause-rules c =
    let h : AreRulesOver c.as_slice-atoms.result.now c.as_slice-2.result.now = c.are_rules_over.ensures.yes c.if-not-are_rules_over.false in
    let i : AreRulesOver c.in-Some.listing.universe.atoms c.as_slice-2.result.now = subst (λ (u : List Atom). AreRulesOver u c.as_slice-2.result.now) c.as_slice-atoms.ensures h in
    subst (λ (rules : List RuleInst). AreRulesOver c.in-Some.listing.universe.atoms rules) c.as_slice-2.ensures i
