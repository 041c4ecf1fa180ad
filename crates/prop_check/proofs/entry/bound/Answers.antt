use Rattle.std.proofs.Common.{rules, ◌≡◌, ◌∙◌, [], ap, SFits}
use Rattle.std.proofs.lemmas.Int.{to_z-of_z}
use mir.Syntax.{w128}
use Rattle.loop_core.specs.declared.env.Env.TheVariants.{Empty}
use Rattle.loop_core.specs.declared.env.Env.TheFolds.{the_lemmas as of_env}
use Rattle.loop_core.specs.Variables.{bindings}
use Rattle.loop_core.specs.Terms.{term_value}
use Rattle.prop_check.proofs.entry.bound.Goals as goal

pub returns : goal.returns
returns g c =
    let fits : SFits w128 c.eval.result = search rules in
    let none : bindings Empty ≡ [] = search (rules, of_env) in
    to_z-of_z w128 c.eval.result fits ∙ c.eval.ensures.value ∙ ap (λ env. term_value c.args.arrays.now env c.args.term.now) none
