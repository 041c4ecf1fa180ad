use Rattle.std.proofs.Common.{rules, ◌≡◌, ◌∷◌, ◌++◌, [], ◌∙◌, subst}
use Rattle.inspector_gen.specs.Kinds.{kind_of}
use Rattle.inspector_gen.proofs.Orders.{kinds_step}
use Rattle.inspector_gen.proofs.order.kinds.Goals as goal

pub loop-u-preserved : goal.loop-u-preserved
loop-u-preserved c = λ f facts.
    let order = c.args.order.now in
    let k = c.loop-u.u-index in
    let u = c.u-item.result in
    let earlier = c.loop-u.earlier.items in
    let here : c.in_ok-kind.kind ≡ kind_of f earlier u.var =
    subst (λ l. c.in_ok-kind.kind ≡ kind_of f l u.var) c.as_slice.ensures.value (c.in_ok-kind.ensures f facts) in
    let made : c.push.new.self ≡ c.loop-u.kinds ++ c.in_ok-kind.kind ∷ [] = search rules in
    let fixed : c.push-in-loop-u.new.self.items ≡ earlier ++ u.var ∷ [] = search rules in
    kinds_step (kind_of f) order k u earlier c.push-in-loop-u.new.self.items c.loop-u.kinds c.push.new.self c.in_ok-kind.kind c.loop-u-test.true c.u-item.is here made fixed
    ∙ c.loop-u.invariant f facts
