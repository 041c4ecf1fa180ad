use Rattle.std.proofs.Common.{rules, ◌≡◌, ◌∷◌, ◌++◌, [], ◌∙◌, ap, sym, subst}
use Rattle.loop_core.specs.declared.nest.Side.TheVariants.{First, Second}
use Rattle.uf_constraints.specs.Relations.{sites}
use Rattle.inspector_run.specs.IsPlan.{IsPlan}
use Rattle.inspector_gen.specs.Variables.{first_side_first, unknowns_in}
use Rattle.inspector_gen.specs.Plans.{emit, steps}
use Rattle.inspector_gen.specs.Plain.{looped, plain_plan_of}
use Rattle.inspector_gen.specs.Own.{Inspects}
use Rattle.inspector_gen.proofs.plain.plain_plan_for.Goals as goal

pub returns : goal.returns
returns c =
    let nest = c.args.nest.now in
    let r = c.args.r.now in
    let listed : c.as_slice.result.now ≡ sites nest = search rules in
    let order : c.in_ok-order.order ≡ first_side_first nest r =
    c.in_ok-order.ensures ∙ ap (λ l. unknowns_in nest l First r.first ++ unknowns_in nest l Second r.second) listed in
    let base : c.as_slice-2.result.now ≡ r.base = search rules in
    let along : c.as_slice-3.result.now ≡ c.in_ok-order.order = search rules in
    let made : c.push.new.self ≡ c.in_ok-ops.ops ++ emit nest ∷ [] = search rules in
    let exact : c.push.new.self ≡ plain_plan_of nest r =
    made ∙ ap (λ l. l ++ emit nest ∷ []) (c.in_ok-ops.ensures ∙ (λ i. steps looped (base i) [] (along i)) ∙ ap (steps looped r.base []) order) in
    record {
      plan = exact;
      form = λ is_nest listed. subst IsPlan (sym exact) (c.plain_plans_inspect.ensures.form nest r is_nest listed);
      pairs = λ is_nest listed a. subst (Inspects nest r a) (sym exact) (c.plain_plans_inspect.ensures.pairs nest r is_nest listed a);
    }
