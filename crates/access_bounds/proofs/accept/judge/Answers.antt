use Rattle.std.proofs.Common.{◌≡◌, ◌∙◌, sym, subst, List}
use Rattle.std.specs.List.{All}
use Rattle.std.proofs.lemmas.Result.{MatchResult-weaker}
use Rattle.loop_core.specs.declared.decl.Decl.{Decl}
use Rattle.loop_core.specs.declared.decl.PropDecl.{PropDecl}
use Rattle.uf_constraints.specs.declared.system.Relation.{Relation}
use Rattle.index_props.specs.Sound.{AllNameIndexes}
use Rattle.bracket_claims.specs.declared.claim.Claim.{Claim}
use Rattle.bracket_claims.specs.Small.{IsSmallClaim, IsSmallBase}
use Rattle.access_bounds.specs.Accepted.{IsBounded}
use Rattle.access_bounds.specs.Judged.{IsFirstRefuted}
use Rattle.access_bounds.proofs.Causes.{full-claim, full-relation, first-refuted, accepted-by}
use Rattle.access_bounds.proofs.Counted.{if_err}
use Rattle.access_bounds.proofs.accept.judge.Goals as goal

pub universes-requires : goal.universes-requires
universes-requires c = subst (All IsSmallClaim) (sym (c.as_slice.ensures ∙ c.in_ok-claims.ensures)) (c.systems_are_small.ensures.brackets c.args.nest.now c.requires.nest)

pub count_relations-requires : goal.count_relations-requires
count_relations-requires c = subst (All (λ (r : Relation). IsSmallBase r.base)) (sym (c.as_slice-2.ensures ∙ c.in_ok-relations.ensures)) (c.systems_are_small.ensures.relations c.args.nest.now c.requires.nest)

pub first_unbounded-requires-clause-names : goal.first_unbounded-requires-clause-names
first_unbounded-requires-clause-names c =
    let nest = c.args.nest.now in
    subst (λ (z : List Decl × List PropDecl). AllNameIndexes z.0 z.1) (λ i. (sym c.as_slice-3.ensures i, sym c.requires.props i))
    (c.conditions_carry_over.ensures.names nest.decls nest.props (c.nest_meets_conditions.ensures.names nest c.requires.nest))

pub first_unbounded-requires-clause-small : goal.first_unbounded-requires-clause-small
first_unbounded-requires-clause-small c = subst (All IsSmallClaim) (sym (c.as_slice-4.ensures ∙ c.in_ok-claims.ensures)) (c.systems_are_small.ensures.brackets c.args.nest.now c.requires.nest)

pub returns-in_err-universes-clause-refused : goal.returns-in_err-universes-clause-refused
returns-in_err-universes-clause-refused c =
    let error = c.in_err-universes.field-0.0 in
    if_err c.from_residual-in_err-universes.result error _ c.from_residual-in_err-universes.ensures.1
    (full-claim c.args.nest.now c.args.props.now c.as_slice.result.now (c.as_slice.ensures ∙ c.in_ok-claims.ensures) error c.in_err-universes.ensures.full)

pub returns-in_err-count_relations-clause-refused : goal.returns-in_err-count_relations-clause-refused
returns-in_err-count_relations-clause-refused c =
    let error = c.in_err-count_relations.field-0.0 in
    if_err c.from_residual-in_err-count_relations.result error _ c.from_residual-in_err-count_relations.ensures.1
    (full-relation c.args.nest.now c.args.props.now c.as_slice.result.now (c.as_slice.ensures ∙ c.in_ok-claims.ensures) c.as_slice-2.result.now (c.as_slice-2.ensures ∙ c.in_ok-relations.ensures) c.in_ok-universes.ensures.few error c.in_err-count_relations.ensures.full)

pub returns-clause-accepted : goal.returns-clause-accepted
returns-clause-accepted c =
    let nest = c.args.nest.now in
    let props = c.args.props.now in
    let cs = c.as_slice.result.now in
    MatchResult-weaker c.first_unbounded.result c.first_unbounded.ensures.bounded
    (λ _ h. accepted-by nest props cs (c.as_slice.ensures ∙ c.in_ok-claims.ensures) c.as_slice-2.result.now (c.as_slice-2.ensures ∙ c.in_ok-relations.ensures) c.in_ok-universes.ensures.few c.in_ok-count_relations.ensures.few
    (subst (λ (z : List Decl × List Claim). All (IsBounded z.0 props) z.1) (λ i. (c.as_slice-3.ensures i, (c.as_slice-4.ensures ∙ sym c.as_slice.ensures) i)) h))
    (λ _ _. tt)

pub returns-clause-refused : goal.returns-clause-refused
returns-clause-refused c =
    let nest = c.args.nest.now in
    let props = c.args.props.now in
    let cs = c.as_slice.result.now in
    MatchResult-weaker c.first_unbounded.result c.first_unbounded.ensures.first
    (λ _ _. tt)
    (λ e h. first-refuted nest props cs (c.as_slice.ensures ∙ c.in_ok-claims.ensures) c.as_slice-2.result.now (c.as_slice-2.ensures ∙ c.in_ok-relations.ensures) c.in_ok-universes.ensures.few c.in_ok-count_relations.ensures.few e
    (subst (λ (z : List Decl × List Claim). IsFirstRefuted z.0 props z.1 e) (λ i. (c.as_slice-3.ensures i, (c.as_slice-4.ensures ∙ sym c.as_slice.ensures) i)) h))
