use Rattle.std.proofs.Common.{rules, ◌≡◌, ◌+◌, length, get_or, drop, subst, refl, arith}
use Rattle.loop_core.specs.Instances.{body_instances, item_instances}
use Rattle.loop_meaning.proofs.Tallies.{body_length, body_end}
use Rattle.loop_meaning.proofs.tally.are_statements.Goals as goal

pub loop-item-preserved : goal.loop-item-preserved
loop-item-preserved c =
    let items = c.args.items.now in
    let k = c.loop-item.item-index in
    let d = c.item-item.result in
    λ a env.
    let one : length (item_instances a (get_or items k d) env) ≡ 1 =
    subst (λ i. length (item_instances a i env) ≡ 1) c.item-item.is (c.if-not-is_statement.ensures refl a env) in
    let here : length (body_instances a items env) ≡ k + length (body_instances a (drop k items) env) = c.loop-item.invariant a env in
    omega (arith, here, one, body_length a items k d env c.loop-item-test.true)

pub returns : goal.returns
returns c =
    let items = c.args.items.now in
    let k = c.loop-item.item-index in
    λ yes' a env.
    let here : length (body_instances a items env) ≡ k + length (body_instances a (drop k items) env) = c.loop-item.invariant a env in
    let last : k ≡ length items = search rules in
    omega (arith, here, last, body_end a items k env c.loop-item-test.false)
