use Rattle.std.proofs.Common.{rules, ◌≡◌, ◌<◌, ◌∙◌, length, slice_index_or, Some, List, sym, subst, Result, Ok, Err, IfOk}
use Rattle.std.specs.List.{Contains}
use Rattle.loop_core.specs.declared.decl.Decl.{Decl}
use Rattle.loop_core.specs.declared.decl.PropDecl.{PropDecl}
use Rattle.loop_core.specs.declared.nest.Atom.{Atom}
use Rattle.uf_constraints.specs.declared.system.Diff.{Diff}
use Rattle.index_props.specs.declared.rule.RuleInst.{RuleInst}
use Rattle.index_props.specs.declared.certificate.Step.{Step}
use Rattle.index_props.specs.Certificate.{conclusion}
use Rattle.index_props.specs.Derivable.{Derivable}
use Rattle.index_props.specs.Rules.{instances_of}
use Rattle.index_props.specs.Sound.{AllNameIndexes}
use Rattle.cert_check.specs.Answer.{AllDerivable, IsTrueFor}
use Rattle.cert_check.specs.declared.refusal.CertRefusal.{CertRefusal}
use Rattle.cert_check.proofs.Checked.{more_known, outcome_more}
use Rattle.cert_check.proofs.Truth.{true_for}
use Rattle.cert_check.proofs.check.check.Goals as goal

among_known : (u : List Atom) (base : List Diff) (rules : List RuleInst) (done : List Diff) (r : Result Diff CertRefusal) → AllDerivable u base rules done → IfOk r (Contains done) → IfOk r (λ d. Derivable u base rules d.a d.b d.c)
among_known u base rules done (Ok d) known h = known d h
among_known u base rules done (Err e) known h = tt

among_true : (u : List Atom) (base : List Diff) (rules : List RuleInst) (done : List Diff) (r : Result Diff CertRefusal) → AllDerivable u base rules done → IfOk r (Contains done) → IfOk r (λ d. (decls : List Decl) (props : List PropDecl) → AllNameIndexes decls props → rules ≡ instances_of decls props u → IsTrueFor decls props base d)
among_true u base rules done (Ok d) known h = λ decls props names is. true_for u base rules decls props names is d (known d h)
among_true u base rules done (Err e) known h = tt

pub loop-step-preserved : goal.loop-step-preserved
loop-step-preserved c =
    let u = c.args.u.now.atoms in
    let base = c.args.base.now in
    let insts = c.args.rules.now in
    let found = sym c.in_ok-diff.ensures ∙ c.in-Some.is in
    let item = c.step-item.result in
    let k : conclusion u base insts c.loop-step.done item ≡ Some c.in-Some.diff =
    subst (λ (l : List Diff). conclusion u base insts l item ≡ Some c.in-Some.diff) c.as_slice-in-loop-step.ensures
    (subst (λ (l : List Atom). conclusion l base insts c.as_slice-in-loop-step.result.now item ≡ Some c.in-Some.diff) c.as_slice.ensures found) in
    let steps : List Step = c.args.cert.now.steps in
    let items = c.as_slice-step-items.ensures in
    let lt : c.loop-step.step-index < length steps = subst (λ (l : List Step). c.loop-step.step-index < length l) items c.loop-step-test.true in
    let is : c.step-item.result ≡ slice_index_or steps c.loop-step.step-index c.step-item.result = subst (λ (l : List Step). c.step-item.result ≡ slice_index_or l c.loop-step.step-index c.step-item.result) items c.step-item.is in
    let new = c.in_ok-keep-in-Some.ensures in record {
      rest = c.loop-step.invariant.rest ∙ outcome_more u base insts c.loop-step.done c.keep.new.done steps c.loop-step.step-index c.step-item.result c.in-Some.diff lt is new k;
      known = more_known u base insts c.loop-step.done c.keep.new.done c.step-item.result c.in-Some.diff new c.loop-step.invariant.known k;
    }

pub returns-clause-derivable : goal.returns-clause-derivable
returns-clause-derivable c =
    among_known c.args.u.now.atoms c.args.base.now c.args.rules.now c.loop-step.done _ c.loop-step.invariant.known c.last.ensures.among

pub returns-clause-sound : goal.returns-clause-sound
returns-clause-sound c =
    among_true c.args.u.now.atoms c.args.base.now c.args.rules.now c.loop-step.done _ c.loop-step.invariant.known c.last.ensures.among
