use Rattle.std.proofs.Common.{◌≡◌, sym, ◌∙◌, subst, ap, IfOk}
use Rattle.loop_core.specs.declared.nest.Nest.{Nest}
use Rattle.props_once.specs.Repeats.{without_repeats}
use Rattle.dep_simplify.specs.Verdicts.{AreVerdicts, AreCertified}
use Rattle.dep_simplify.proofs.Fits.{ready}
use Rattle.dep_simplify.proofs.verdicts.verdicts.Goals as goal

pub all-requires : goal.all-requires
all-requires c =
    let nest = c.args.loop_in.now in
    ready nest c.nest-nest.ensures.accepted (c.systems_are_small.ensures.relations nest c.nest-nest.ensures.is_nest) c.nest-nest.ensures.is_nest c.nest-nest.result.now c.as_slice-2.result.now c.as_slice-3.result.now c.nest-nest.ensures.nest
    (c.as_slice-2.ensures ∙ c.in_ok-props.ensures ∙ ap without_repeats c.as_slice.ensures)
    (c.as_slice-3.ensures ∙ c.in_ok-relations.ensures)

pub returns-clause-exact : goal.returns-clause-exact
returns-clause-exact c = subst (λ (n : Nest). IfOk c.all.result (AreVerdicts n)) c.nest-nest.ensures.nest c.all.ensures.exact

pub returns-clause-certified : goal.returns-clause-certified
returns-clause-certified c = subst (λ (n : Nest). IfOk c.all.result (AreCertified n)) c.nest-nest.ensures.nest c.all.ensures.certified
