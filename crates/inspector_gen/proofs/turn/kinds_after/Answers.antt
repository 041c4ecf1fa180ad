use Rattle.std.proofs.Common.{rules, ◌≡◌, ◌+◌, ◌∷◌, ◌++◌, [], ◌∙◌, ap, length, length-append, arith}
use Rattle.inspector_gen.specs.Kinds.{kind_of}
use Rattle.inspector_gen.proofs.Orders.{after_step}
use Rattle.inspector_gen.proofs.turn.kinds_after.Goals as goal

pub loop-u-preserved : goal.loop-u-preserved
loop-u-preserved c =
    let made : c.push.new.self ≡ c.loop-u.kinds ++ c.in_ok-kind.kind ∷ [] = search rules in
    let one : length c.push.new.self ≡ length c.loop-u.kinds + 1 = ap length made ∙ length-append c.loop-u.kinds (c.in_ok-kind.kind ∷ []) in
    let so_far : length c.loop-u.kinds ≡ c.loop-u.u-index = c.loop-u.invariant.1 in (
      λ f facts.
          after_step (kind_of f) c.args.taken.now c.args.left.now c.loop-u.u-index c.u-item.result c.loop-u.kinds c.push.new.self c.in_ok-kind.kind
          c.loop-u-test.true c.u-item.is (c.in_ok-kind.ensures f facts) made
          ∙ c.loop-u.invariant.0 f facts,
      omega (arith, one, so_far),
    )
