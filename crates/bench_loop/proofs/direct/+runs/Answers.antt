use Rattle.std.proofs.Common.{rules, ◌≡◌, ◌+◌, ◌≤◌, length, sym, ap, subst, ◌∙◌, drop, arith, ℤ, pos, ◌+ℤ◌, ◌<ℤ◌, FitsSigned, to_z, of_z}
use mir.Syntax.{w128}
use borrow.Author.Rules.{get_or_read}
use Rattle.loop_core.specs.declared.env.Env.TheFolds.{the_lemmas as of_env}
use Rattle.loop_core.specs.declared.nest.Item.TheFolds.{the_lemmas as of_item}
use Rattle.std.proofs.lemmas.Int.{to_z-of_z, ints}
use Rattle.loop_core.specs.Variables.{bindings}
use Rattle.loop_core.specs.Terms.{AreBounded, IsWithin}
use Rattle.loop_core.specs.Depth.{depth, body_depth}
use Rattle.loop_core.specs.Instances.{item_instances, body_instances, turns, trips, bound}
use Rattle.loop_core.specs.Sequence.{State, after_all}
use Rattle.loop_core.proofs.Depths.{depth_within}
use Rattle.loop_core.proofs.Within.{bound_bounded}
use Rattle.bench_loop.proofs.Runs.{body_step, turn_step, between}
use Rattle.bench_loop.proofs.direct.+runs.Goals as goal

pub run_body-run_item-requires : goal.run_body-run_item-requires
run_body-run_item-requires t c =
    let shallow : depth c.item-item.result ≤ body_depth c.args.items.now =
    subst (λ i. depth i ≤ body_depth c.args.items.now) (sym c.item-item.is) (depth_within c.args.items.now c.loop-item.item-index c.item-item.result c.loop-item-test.true) in
    search (rules, of_item, of_env, get_or_read, c.requires, c.decreases)

pub run_body-loop-item-preserved : goal.run_body-loop-item-preserved
run_body-loop-item-preserved t c =
    let a = c.args.arrays.now in
    let env = bindings c.args.env.now in
    let k = c.loop-item.item-index in
    let here = c.loop-item.running in
    ap (after_all (body_instances a (drop (k + 1) c.args.items.now) env))
    (c.run_item.ensures ∙ ap (λ i. after_all (item_instances a i env) here) c.item-item.is)
    ∙ sym (body_step a c.args.items.now k c.item-item.result env here c.loop-item-test.true)
    ∙ c.loop-item.invariant

pub run_turns-run_body-requires : goal.run_turns-run_body-requires
run_turns-run_body-requires t c =
    let env = bindings c.args.env.now in
    let inside : IsWithin (length env + 1) c.loop-i.i = between (length env + 1) c.args.lo c.loop-i.i c.args.hi (omega (arith, ints, c.loop-i.invariant.0)) (omega (arith, ints)) c.requires.low c.requires.high in
    let bounded : AreBounded (bound c.args.line c.loop-i.i env) = bound_bounded c.args.line c.loop-i.i env c.requires.bounded (omega arith) inside in
    search (ints, rules, of_item, of_env, c.requires, c.decreases)

pub run_turns-loop-i-preserved : goal.run_turns-loop-i-preserved
run_turns-loop-i-preserved t c =
    let env = bindings c.args.env.now in
    let body = λ (i : ℤ). body_instances c.args.arrays.now c.args.body.now (bound c.args.line i env) in
    let below : c.loop-i.i <ℤ c.args.hi = omega (arith, ints) in
    let fits : FitsSigned w128 (c.loop-i.i +ℤ pos 1) = search (ints, rules) in
    let is_hi : to_z w128 (of_z w128 c.args.hi) ≡ c.args.hi = to_z-of_z w128 c.args.hi c.ranges.hi in
    let is_lo : to_z w128 (of_z w128 c.args.lo) ≡ c.args.lo = to_z-of_z w128 c.args.lo c.ranges.lo in
    let next : to_z w128 (of_z w128 (to_z w128 c.loop-i.i-bits +ℤ pos 1)) ≡ c.loop-i.i +ℤ pos 1 =
    ap (λ z. to_z w128 (of_z w128 (z +ℤ pos 1))) c.loop-i.i-is ∙ to_z-of_z w128 (c.loop-i.i +ℤ pos 1) fits in
    let v = c.loop-i.running in
    let after = c.run_body.new.running in
    let ran : after ≡ after_all (body c.loop-i.i) v = search (rules, of_env, c.run_body.ensures) in
    let step = turn_step body c.loop-i.i c.args.hi v below in
    let hi = to_z w128 (of_z w128 c.args.hi) in
    let left = λ (i h : ℤ) (x : State). after_all (turns (trips i h) i body) x in (
      omega (arith, ints, c.loop-i.invariant.0),
      ap (λ i. left i hi after) next
          ∙ ap (λ h. left (c.loop-i.i +ℤ pos 1) h after) is_hi
          ∙ ap (left (c.loop-i.i +ℤ pos 1) c.args.hi) ran
          ∙ sym step
          ∙ ap (λ h. left c.loop-i.i h v) (sym is_hi)
          ∙ ap (λ i. left i hi v) (sym c.loop-i.i-is)
          ∙ c.loop-i.invariant.1,
    )
