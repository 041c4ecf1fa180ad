use Rattle.std.proofs.Common.{arith, ap, ◌≡◌, ◌∙◌, List, subst, sym}
use Rattle.uf_constraints.specs.declared.system.Diff.{Diff}
use Rattle.index_props.specs.declared.rule.RuleInst.{RuleInst}
use Rattle.bound_ways.specs.Over.{AreOver}
use Rattle.bound_ways.proofs.Bounding.{over-item, got, got-is, contains-got}
use Rattle.bound_close.proofs.Takes.{applied-next, applied-stop, applied-all}
use Rattle.bound_close.proofs.workings.Workings.add_results.Goals as goal

pub add_result-requires-clause-over : goal.add_result-requires-clause-over
add_result-requires-clause-over c =
    let o : AreOver c.args.atoms.now c.as_slice-results.result.now = subst (λ (l : List Diff). AreOver c.args.atoms.now l) (sym c.as_slice-results.ensures) (c.requires.over c.index-rules-rule.result (contains-got c.args.rules.now c.args.rule c.index-rules-rule.result (got c.args.rules.now c.args.rule c.index-rules-rule.result c.requires.rule c.index-rules-rule.is))).results in
    over-item c.args.atoms.now c.as_slice-results.result.now c.loop-at.at c.index-results-at.result o (omega arith) c.index-results-at.is

pub returns-then-not-branch-clause-refuted : goal.returns-then-not-branch-clause-refuted
returns-then-not-branch-clause-refuted c = λ _ r at.
    let same : c.as_slice-results.result.now ≡ r.results = c.as_slice-results.ensures ∙ ap (λ (r : RuleInst). r.results) (got-is c.args.rules.now c.args.rule c.index-rules-rule.result r c.index-rules-rule.is at) in
    let o : AreOver c.args.atoms.now c.as_slice-results.result.now = subst (λ (l : List Diff). AreOver c.args.atoms.now l) (sym same) (c.requires.over r (contains-got c.args.rules.now c.args.rule r at)).results in
    applied-stop c.args.atoms.now c.args.rules.now c.args.rule r c.args.places.now c.as_slice-results.result.now same o at c.args.self.now c.loop-at.self c.add_result.new.self c.loop-at.at c.index-results-at.result (omega arith) c.index-results-at.is (c.loop-at.invariant r at) (c.in_ok-add_result.ensures.clashes c.if-not-branch.true)

pub loop-at-preserved : goal.loop-at-preserved
loop-at-preserved c = λ r at.
    let same : c.as_slice-results.result.now ≡ r.results = c.as_slice-results.ensures ∙ ap (λ (r : RuleInst). r.results) (got-is c.args.rules.now c.args.rule c.index-rules-rule.result r c.index-rules-rule.is at) in
    let o : AreOver c.args.atoms.now c.as_slice-results.result.now = subst (λ (l : List Diff). AreOver c.args.atoms.now l) (sym same) (c.requires.over r (contains-got c.args.rules.now c.args.rule r at)).results in
    applied-next c.args.atoms.now c.args.rules.now c.args.rule r c.args.places.now c.as_slice-results.result.now same o at c.args.self.now c.loop-at.self c.add_result.new.self c.loop-at.at c.index-results-at.result (omega arith) c.index-results-at.is (c.loop-at.invariant r at) (c.in_ok-add_result.ensures.grown c.if-not-branch.false)

pub returns-clause-applied : goal.returns-clause-applied
returns-clause-applied c = λ _ r at.
    let same : c.as_slice-results.result.now ≡ r.results = c.as_slice-results.ensures ∙ ap (λ (r : RuleInst). r.results) (got-is c.args.rules.now c.args.rule c.index-rules-rule.result r c.index-rules-rule.is at) in
    applied-all c.args.atoms.now c.args.rules.now r c.args.places.now c.as_slice-results.result.now c.args.self.now c.loop-at.self c.loop-at.at same (omega arith) (c.loop-at.invariant r at)
