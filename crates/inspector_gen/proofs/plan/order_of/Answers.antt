use Rattle.std.proofs.Common.{rules, ◌≡◌, ◌++◌, ◌∙◌, ap}
use Rattle.loop_core.specs.declared.nest.Side.TheVariants.{First, Second}
use Rattle.uf_constraints.specs.Relations.{sites}
use Rattle.inspector_gen.specs.Variables.{first_side_first, second_side_first, unknowns_in}
use Rattle.inspector_gen.specs.Kinds.{kind_of}
use Rattle.inspector_gen.specs.Plans.{cheaper}
use Rattle.inspector_gen.proofs.plan.order_of.Goals as goal

pub returns : goal.returns
returns c = λ f facts.
    let nest = c.args.nest.now in
    let r = c.args.r.now in
    let listed : c.as_slice.result.now ≡ sites nest = search rules in
    let again : c.as_slice-2.result.now ≡ sites nest = search rules in
    let first : c.in_ok-first.first ≡ first_side_first nest r =
    c.in_ok-first.ensures ∙ ap (λ l. unknowns_in nest l First r.first ++ unknowns_in nest l Second r.second) listed in
    let second : c.in_ok-second.second ≡ second_side_first nest r =
    c.in_ok-second.ensures ∙ ap (λ l. unknowns_in nest l Second r.second ++ unknowns_in nest l First r.first) again in
    c.in_ok-cheaper.ensures f facts ∙ (λ i. cheaper (kind_of f) (first i) (second i))
