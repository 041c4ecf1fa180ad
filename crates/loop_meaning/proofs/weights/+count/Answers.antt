use Rattle.std.proofs.Common.{rules, ◌≡◌, ◌≤◌, ◌+◌, ◌*◌, sym, ap, subst, ◌∙◌, get_or, refl, drop, length, arith, ℤ, pos, ◌+ℤ◌, ◌≤ℤ◌, ◌<ℤ◌, FitsSigned, to_z, of_z}
use mir.Syntax.{w128}
use borrow.Author.Rules.{get_or_read}
use Rattle.loop_core.specs.declared.env.Env.TheFolds.{the_lemmas as of_env}
use Rattle.loop_core.specs.declared.nest.Item.TheFolds.{the_lemmas as of_item}
use Rattle.std.proofs.lemmas.Int.{to_z-of_z, ints}
use Rattle.loop_core.specs.Variables.{bindings}
use Rattle.loop_core.specs.Terms.{term_value}
use Rattle.loop_core.specs.Depth.{depth, body_depth}
use Rattle.loop_core.specs.Instances.{item_instances, body_instances, turns, trips, bound}
use Rattle.loop_core.proofs.Depths.{depth_within}
use Rattle.loop_meaning.specs.Weights.{counted}
use Rattle.loop_meaning.proofs.Tallies.{counted_on, counted_few, counted_end, body_length, body_end, turns_front, turns_end, turns_length}
use Rattle.loop_meaning.proofs.weights.+count.Goals as goal

pub count_body-count_item-count-requires : goal.count_body-count_item-count-requires
count_body-count_item-count-requires t c =
    let items = c.args.items.now in
    let k = c.loop-item.item-index in
    let shallow : depth c.item-item.result ≤ body_depth items =
    subst (λ i. depth i ≤ body_depth items) (sym c.item-item.is) (depth_within items k c.item-item.result c.loop-item-test.true) in
    search (rules, of_item, of_env, get_or_read, c.requires, c.decreases)

pub count_body-loop-item-preserved : goal.count_body-loop-item-preserved
count_body-loop-item-preserved t c =
    let items = c.args.items.now in
    let a = c.args.arrays.now in
    let env = bindings c.args.env.now in
    let k = c.loop-item.item-index in
    let d = c.item-item.result in
    let count = c.loop-item.count in
    let here = length (item_instances a (get_or items k d) env) in
    let rest = length (body_instances a (drop (k + 1) items) env) in
    let step : c.count_item-count.result ≡ counted (count + here) =
    subst (λ i. c.count_item-count.result ≡ counted (count + length (item_instances a i env))) c.item-item.is c.count_item-count.ensures in
    let more : counted (c.count_item-count.result + rest) ≡ counted (c.args.before + length (body_instances a items env)) =
    ap (λ n. counted (n + rest)) step
    ∙ counted_on count here rest
    ∙ ap (λ n. counted (count + n)) (sym (body_length a items k d env c.loop-item-test.true))
    ∙ c.loop-item.invariant.1 in
    (subst (λ n. n ≤ 4294967295) (sym step) (counted_few (count + here)), more)

pub count_body-returns : goal.count_body-returns
count_body-returns t c =
    let items = c.args.items.now in
    let k = c.loop-item.item-index in
    let count = c.loop-item.count in
    counted_end count _ c.loop-item.invariant.0 (body_end c.args.arrays.now items k (bindings c.args.env.now) c.loop-item-test.false) ∙ c.loop-item.invariant.1

pub count_loop-returns-then-are_statements : goal.count_loop-returns-then-are_statements
count_loop-returns-then-are_statements t c =
    let a = c.args.arrays.now in
    let env = bindings c.args.env.now in
    let body = λ (i : ℤ). body_instances a c.args.body.now (bound c.args.line i env) in
    let lo = term_value a env c.args.lo.now in
    let hi = term_value a env c.args.hi.now in
    let each : (i : ℤ) → length (body i) ≡ length c.args.body.now = λ i. c.if-are_statements.ensures refl a (bound c.args.line i env) in
    let counts : c.add_all.result ≡ counted (c.args.before + trips lo hi * length c.args.body.now) = search (rules, c.value-lo.ensures, c.value-hi.ensures) in
    counts ∙ ap (λ n. counted (c.args.before + n)) (sym (turns_length (trips lo hi) lo body (length c.args.body.now) each))

pub count_turns-loop-i-preserved : goal.count_turns-loop-i-preserved
count_turns-loop-i-preserved t c =
    let env = bindings c.args.env.now in
    let body = λ (i : ℤ). body_instances c.args.arrays.now c.args.body.now (bound c.args.line i env) in
    let count = c.loop-i.count in
    let below : c.loop-i.i <ℤ c.args.hi = omega (arith, ints) in
    let fits : FitsSigned w128 (c.loop-i.i +ℤ pos 1) = search (ints, rules) in
    let is_hi : to_z w128 (of_z w128 c.args.hi) ≡ c.args.hi = to_z-of_z w128 c.args.hi c.ranges.hi in
    let next : to_z w128 (of_z w128 (to_z w128 c.loop-i.i-bits +ℤ pos 1)) ≡ c.loop-i.i +ℤ pos 1 =
    ap (λ z. to_z w128 (of_z w128 (z +ℤ pos 1))) c.loop-i.i-is ∙ to_z-of_z w128 (c.loop-i.i +ℤ pos 1) fits in
    let here : c.count_body-count.result ≡ counted (count + length (body c.loop-i.i)) = search (rules, of_env, c.count_body-count.ensures) in
    let rest = length (turns (trips (c.loop-i.i +ℤ pos 1) c.args.hi) (c.loop-i.i +ℤ pos 1) body) in
    let front : counted (c.count_body-count.result + rest) ≡ counted (count + length (turns (trips c.loop-i.i c.args.hi) c.loop-i.i body)) =
    ap (λ n. counted (n + rest)) here
    ∙ counted_on count (length (body c.loop-i.i)) rest
    ∙ ap (λ n. counted (count + n)) (sym (turns_front body c.loop-i.i c.args.hi below)) in (
      omega (arith, ints, c.loop-i.invariant.0),
      subst (λ n. n ≤ 4294967295) (sym here) (counted_few (count + length (body c.loop-i.i))),
      rw (next, is_hi) (front ∙ (rw (c.loop-i.i-is, is_hi) at c.loop-i.invariant.2)),
    )

pub count_turns-returns : goal.count_turns-returns
count_turns-returns t c =
    let body = λ (i : ℤ). body_instances c.args.arrays.now c.args.body.now (bound c.args.line i (bindings c.args.env.now)) in
    let done : c.args.hi ≤ℤ c.loop-i.i = omega (arith, ints) in
    let is_hi : to_z w128 (of_z w128 c.args.hi) ≡ c.args.hi = to_z-of_z w128 c.args.hi c.ranges.hi in
    let is_lo : to_z w128 (of_z w128 c.args.lo) ≡ c.args.lo = to_z-of_z w128 c.args.lo c.ranges.lo in
    rw is_lo at (counted_end c.loop-i.count _ c.loop-i.invariant.1 (turns_end body c.loop-i.i c.args.hi done) ∙ (rw (c.loop-i.i-is, is_hi) at c.loop-i.invariant.2))
