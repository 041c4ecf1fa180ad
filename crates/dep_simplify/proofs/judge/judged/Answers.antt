use Rattle.std.proofs.Common.{◌≡◌, List, subst, sym, IfOk}
use Rattle.loop_core.specs.declared.nest.Atom.{Atom}
use Rattle.index_props.specs.Derivable.{IsContradictory}
use Rattle.dep_simplify.specs.Ready.{IsJudged}
use Rattle.dep_simplify.proofs.judge.judged.Goals as goal

pub returns : goal.returns
returns c =
    let base = c.args.base.now in
    let insts = c.args.rules.now in
    let none = rw c.in-None.is at c.in_ok-cert.ensures in
    subst (λ (u : List Atom). IfOk c.by_covers.result (IsJudged u base insts c.args.relations.now c.args.verdicts.now)) c.in_ok-closure.ensures.atoms
    (c.by_covers.ensures base insts (record {
      closure = c.in_ok-closure.ensures.closure;
      consistent = subst (λ (u : List Atom). IsContradictory u base insts → ⊥) (sym c.in_ok-closure.ensures.atoms) none;
    }))
