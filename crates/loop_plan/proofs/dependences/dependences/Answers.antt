use Rattle.std.proofs.Common.{◌≡◌, ◌∙◌, sym, subst, List, IfOk}
use Rattle.std.specs.List.{All}
use Rattle.loop_core.specs.declared.nest.Nest.{Nest}
use Rattle.loop_core.specs.IsNest.{IsNest}
use Rattle.uf_constraints.specs.declared.system.Relation.{Relation}
use Rattle.uf_constraints.specs.Relations.{relations}
use Rattle.index_props.specs.Meanings.{Passes}
use Rattle.index_props.specs.Sound.{IndexLengths}
use Rattle.dep_simplify.specs.Ready.{IsFit}
use Rattle.dep_simplify.specs.Verdicts.{AreVerdicts}
use Rattle.dep_simplify.proofs.Fits.{all_fit}
use Rattle.loop_plan.specs.Kept.{ArePairsOfKept}
use Rattle.loop_plan.proofs.dependences.dependences.Goals as goal

pub pairs_of_kept-requires-clause-is_nest : goal.pairs_of_kept-requires-clause-is_nest
pairs_of_kept-requires-clause-is_nest g c κs within = subst IsNest (sym c.nest-nest.ensures.nest) c.nest-nest.ensures.is_nest

pub pairs_of_kept-requires-clause-fit : goal.pairs_of_kept-requires-clause-fit
pairs_of_kept-requires-clause-fit g c κs within =
    let nest = c.args.loop_in.now in
    let fit : All (IsFit nest) (relations nest) = all_fit nest c.nest-nest.ensures.accepted (c.systems_are_small.ensures.relations nest c.nest-nest.ensures.is_nest) in
    let there = subst (λ (n : Nest). All (IsFit n) (relations n)) (sym c.nest-nest.ensures.nest) fit in
    subst (λ (rs : List Relation). All (IsFit c.nest-nest.result.now) rs) (sym (c.as_slice.ensures ∙ c.in_ok-relations.ensures)) there

pub pairs_of_kept-requires-clause-verdicts : goal.pairs_of_kept-requires-clause-verdicts
pairs_of_kept-requires-clause-verdicts g c κs within = subst (λ (n : Nest). AreVerdicts n c.args.verdicts.now) (sym c.nest-nest.ensures.nest) c.requires.verdicts

pub pairs_of_kept-requires-clause-lengths : goal.pairs_of_kept-requires-clause-lengths
pairs_of_kept-requires-clause-lengths g c κs within = subst (λ (n : Nest). IndexLengths n.decls c.args.arrays.now) (sym c.nest-nest.ensures.nest) c.requires.lengths

pub pairs_of_kept-requires-clause-passes : goal.pairs_of_kept-requires-clause-passes
pairs_of_kept-requires-clause-passes g c κs within = subst (λ (n : Nest). Passes n.props c.args.arrays.now) (sym c.nest-nest.ensures.nest) c.requires.passes

pub returns : goal.returns
returns g c =
    let Of : Nest → Type 0 = λ n. IfOk c.pairs_of_kept.result (λ pairs. ArePairsOfKept n c.args.verdicts.now c.args.arrays.now pairs.items) in
    subst Of c.nest-nest.ensures.nest c.pairs_of_kept.ensures
