use Rattle.std.proofs.Common.{◌≡◌, ◌∙◌, List, sym, subst, ap}
use Rattle.std.proofs.lemmas.Result.{IfOk-weaker}
use Rattle.loop_core.specs.declared.decl.Decl.{Decl}
use Rattle.loop_core.specs.declared.decl.PropDecl.{PropDecl}
use Rattle.loop_core.specs.declared.nest.Atom.{Atom}
use Rattle.index_props.specs.Rules.{instances_of}
use Rattle.bound_ways.specs.Over.{AreOver, AreRulesOver}
use Rattle.dep_simplify.proofs.Follow.{base_over}
use Rattle.inspector_gen.specs.Own.{IsOwn}
use Rattle.loop_plan.proofs.Owning.{owns}
use Rattle.loop_plan.proofs.inspection.inspection.Goals as goal

pub close-requires-clause-base : goal.close-requires-clause-base
close-requires-clause-base c =
    let u : List Atom = c.in_ok-u.u.atoms in
    subst (AreOver u) (sym c.as_slice-3.ensures) (base_over u c.args.relation.now.base c.in_ok-u.ensures.over c.requires.fit.sides)

pub close-requires-clause-rules : goal.close-requires-clause-rules
close-requires-clause-rules c =
    let nest = c.args.nest.now in
    let u : List Atom = c.in_ok-u.u.atoms in
    let is : c.as_slice-4.result.now ≡ instances_of nest.decls nest.props u = c.as_slice-4.ensures ∙ c.in_ok-rules.ensures ∙ (λ i. instances_of (c.as_slice.ensures i) (c.as_slice-2.ensures i) u) in
    subst (AreRulesOver u) (sym is)
    (c.instances_can_be_closed.ensures nest.decls nest.props u (c.nest_meets_conditions.ensures.names nest c.requires.is_nest) c.in_ok-u.ensures.closed c.in_ok-u.ensures.within (c.nest_meets_conditions.ensures.bounds nest c.requires.is_nest))

pub returns-clause-form : goal.returns-clause-form
returns-clause-form c =
    let nest = c.args.nest.now in
    let r = c.args.relation.now in
    let u : List Atom = c.in_ok-u.u.atoms in
    let is : c.as_slice-4.result.now ≡ instances_of nest.decls nest.props u = c.as_slice-4.ensures ∙ c.in_ok-rules.ensures ∙ (λ i. instances_of (c.as_slice.ensures i) (c.as_slice-2.ensures i) u) in
    let own : IsOwn nest r c.in_ok-closure.closure = owns nest r c.in_ok-closure.closure u c.as_slice-3.result.now c.as_slice-4.result.now c.requires.is_nest c.requires.listed c.requires.kept c.in_ok-closure.ensures.atoms c.in_ok-u.ensures.atoms c.as_slice-3.ensures is c.in_ok-closure.ensures.closure in
    IfOk-weaker c.quick_plan_for.result _ _ (λ plan form. form own) c.quick_plan_for.ensures.form

pub returns-clause-pairs : goal.returns-clause-pairs
returns-clause-pairs c =
    let nest = c.args.nest.now in
    let r = c.args.relation.now in
    let u : List Atom = c.in_ok-u.u.atoms in
    let is : c.as_slice-4.result.now ≡ instances_of nest.decls nest.props u = c.as_slice-4.ensures ∙ c.in_ok-rules.ensures ∙ (λ i. instances_of (c.as_slice.ensures i) (c.as_slice-2.ensures i) u) in
    let own : IsOwn nest r c.in_ok-closure.closure = owns nest r c.in_ok-closure.closure u c.as_slice-3.result.now c.as_slice-4.result.now c.requires.is_nest c.requires.listed c.requires.kept c.in_ok-closure.ensures.atoms c.in_ok-u.ensures.atoms c.as_slice-3.ensures is c.in_ok-closure.ensures.closure in
    IfOk-weaker c.quick_plan_for.result _ _ (λ plan pairs. pairs own) c.quick_plan_for.ensures.pairs
