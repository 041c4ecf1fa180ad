use Rattle.std.proofs.Common.{rules, ◌≡◌, ◌∷◌, ◌++◌, [], ◌∙◌, ap}
use Rattle.inspector_gen.specs.Kinds.{kind_of}
use Rattle.inspector_gen.specs.Plans.{emit, steps}
use Rattle.inspector_gen.proofs.plan.plan_along.Goals as goal

pub returns : goal.returns
returns c = λ f facts.
    let nest = c.args.nest.now in
    let r = c.args.r.now in
    let base : c.as_slice.result.now ≡ r.base = search rules in
    let made : c.push.new.self ≡ c.in_ok-ops.ops ++ emit nest ∷ [] = search rules in
    made ∙ ap (λ l. l ++ emit nest ∷ []) (c.in_ok-ops.ensures f facts ∙ ap (λ b. steps (kind_of f) b [] c.args.order.now) base)
