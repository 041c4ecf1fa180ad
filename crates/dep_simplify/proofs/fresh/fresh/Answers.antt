use Rattle.std.proofs.Common.{◌≡◌, List, sym, ◌∙◌, subst, ap, length}
use Rattle.std.proofs.lemmas.Result.{IfOk-weaker}
use Rattle.loop_core.specs.declared.decl.Decl.{Decl}
use Rattle.loop_core.specs.declared.decl.PropDecl.{PropDecl}
use Rattle.loop_core.specs.declared.nest.Atom.{Atom}
use Rattle.uf_constraints.specs.declared.system.Relation.{Relation}
use Rattle.index_props.specs.declared.rule.RuleInst.{RuleInst}
use Rattle.index_props.specs.Rules.{instances_of}
use Rattle.index_props.specs.Sound.{AllNameIndexes}
use Rattle.index_props.specs.Within.{AllBoundsWithin}
use Rattle.bound_ways.specs.Over.{AreOver, AreRulesOver}
use Rattle.props_once.specs.Repeats.{without_repeats}
use Rattle.dep_simplify.specs.Ready.{IsJudged, IsNext}
use Rattle.dep_simplify.specs.Systems.{atoms_of}
use Rattle.dep_simplify.proofs.Follow.{base_over}
use Rattle.dep_simplify.proofs.Systems.{fit_at, there_at, next_from}
use Rattle.dep_simplify.proofs.fresh.fresh.Goals as goal

pub judged-requires-clause-base : goal.judged-requires-clause-base
judged-requires-clause-base c =
    let r : Relation = c.index-relations-verdicts.result in
    let fit = fit_at c.args.nest.now c.args.props.now c.args.relations.now c.requires.ready (length c.args.verdicts.now) r c.requires.left c.index-relations-verdicts.is in
    subst (AreOver c.in_ok-u.u.atoms) (sym c.as_slice-base.ensures) (base_over c.in_ok-u.u.atoms r.base c.in_ok-u.ensures.over fit.sides)

pub judged-requires-clause-rules : goal.judged-requires-clause-rules
judged-requires-clause-rules c =
    let nest = c.args.nest.now in
    let u : List Atom = c.in_ok-u.u.atoms in
    let names : AllNameIndexes nest.decls c.args.props.now = subst (AllNameIndexes nest.decls) (sym c.requires.ready.once) (c.conditions_carry_over.ensures.names nest.decls nest.props (c.nest_meets_conditions.ensures.names nest c.requires.ready.is_nest)) in
    let bounds : AllBoundsWithin c.args.props.now = subst AllBoundsWithin (sym c.requires.ready.once) (c.conditions_carry_over.ensures.bounds nest.props (c.nest_meets_conditions.ensures.bounds nest c.requires.ready.is_nest)) in
    subst (AreRulesOver u) (sym (c.as_slice-2.ensures ∙ c.in_ok-rules.ensures ∙ ap (λ (ds : List Decl). instances_of ds c.args.props.now u) c.as_slice.ensures))
    (c.instances_can_be_closed.ensures nest.decls c.args.props.now u names c.in_ok-u.ensures.closed c.in_ok-u.ensures.within bounds)

pub returns : goal.returns
returns c =
    let nest = c.args.nest.now in
    let vs = c.args.verdicts.now in
    let all = c.args.relations.now in
    let r : Relation = c.index-relations-verdicts.result in
    let u : List Atom = c.in_ok-u.u.atoms in
    let base = c.as_slice-base.result.now in
    let insts = c.as_slice-2.result.now in
    let is : insts ≡ instances_of nest.decls c.args.props.now u = c.as_slice-2.ensures ∙ c.in_ok-rules.ensures ∙ ap (λ (ds : List Decl). instances_of ds c.args.props.now u) c.as_slice.ensures in
    let names : AllNameIndexes nest.decls c.args.props.now = subst (AllNameIndexes nest.decls) (sym c.requires.ready.once) (c.conditions_carry_over.ensures.names nest.decls nest.props (c.nest_meets_conditions.ensures.names nest c.requires.ready.is_nest)) in
    let bounds : AllBoundsWithin c.args.props.now = subst AllBoundsWithin (sym c.requires.ready.once) (c.conditions_carry_over.ensures.bounds nest.props (c.nest_meets_conditions.ensures.bounds nest c.requires.ready.is_nest)) in
    let over : AreRulesOver u insts = subst (AreRulesOver u) (sym is) (c.instances_can_be_closed.ensures nest.decls c.args.props.now u names c.in_ok-u.ensures.closed c.in_ok-u.ensures.within bounds) in
    let once : insts ≡ instances_of nest.decls (without_repeats nest.props) u = is ∙ ap (λ (ps : List PropDecl). instances_of nest.decls ps u) c.requires.ready.once in
    let there = there_at nest c.args.props.now all c.requires.ready (length vs) r c.requires.left c.index-relations-verdicts.is in
    IfOk-weaker c.judged.result (IsJudged u base insts all vs) (IsNext nest vs)
    (λ v h. next_from nest vs r there all c.requires.ready.listed
    (λ a b k. c.the_same_is_derivable.ensures.derivable nest.decls nest.props (atoms_of nest r) r.base a b k)
    (c.the_same_is_derivable.ensures.contradictory nest.decls nest.props (atoms_of nest r) r.base)
    u base insts c.in_ok-u.ensures.atoms c.as_slice-base.ensures once over v h) c.judged.ensures
