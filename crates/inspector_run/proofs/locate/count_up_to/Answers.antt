use Rattle.std.proofs.Common.{arith, ◌≡◌, ◌+◌, ◌-◌, ◌/◌, ◌<◌, ◌≤◌, pos, ◌≤ℤ◌, ◌<ℤ◌, length, ap, ◌∙◌, subst, to_z, of_z, int_le}
use mir.Syntax.{w128}
use Rattle.std.proofs.lemmas.Int.{ints, to_z-of_z}
use Rattle.loop_core.specs.Lists.{list_of, entry}
use Rattle.inspector_run.specs.Tries.{word}
use Rattle.inspector_run.specs.Ticks.{digits}
use Rattle.inspector_run.proofs.Digits.{digits_half, digits_more, greatest_is}
use Rattle.inspector_run.proofs.Ascend.{at_most_from, above_from}
use Rattle.inspector_run.proofs.locate.count_up_to.Goals as goal

pub loop-low-preserved-then-at-value : goal.loop-low-preserved-then-at-value
loop-low-preserved-then-at-value g c =
    let a = c.args.arrays.now in
    let list = list_of a.lists c.args.array in
    let low = c.loop-low.low in
    let high = c.loop-low.high in
    let middle = low + (high - low) / 2 in
    let len : c.len-len.result ≡ length list = c.len-len.ensures in
    let is : to_z w128 (of_z w128 c.args.value) ≡ c.args.value = to_z-of_z w128 c.args.value c.ranges.value in
    let place : to_z w128 middle ≡ pos middle = omega (arith, ints) in
    let read : c.at.result ≡ word list middle = c.at.ensures.value ∙ ap (entry a.lists c.args.array) place in
    let here : c.at.result ≤ℤ c.args.value = omega (arith, ints) in
    let last : middle < length list = omega arith in
    let half : digits (high - (middle + 1)) + 1 ≤ digits (high - low) = digits_half (high - (middle + 1)) (high - low) (omega arith) (omega arith) in
    record {
      ordered = omega arith;
      inside = omega arith;
      low = λ s l. let order : word list s ≤ℤ word list middle = c.requires s middle (omega arith) last in omega (arith, ints, order, here, read, is);
      high = c.loop-low.invariant.high;
      ticks = omega (arith, half, c.loop-low.invariant.ticks, c.at.ensures.cost);
    }

pub loop-low-preserved : goal.loop-low-preserved
loop-low-preserved g c =
    let a = c.args.arrays.now in
    let list = list_of a.lists c.args.array in
    let low = c.loop-low.low in
    let high = c.loop-low.high in
    let middle = low + (high - low) / 2 in
    let len : c.len-len.result ≡ length list = c.len-len.ensures in
    let is : to_z w128 (of_z w128 c.args.value) ≡ c.args.value = to_z-of_z w128 c.args.value c.ranges.value in
    let place : to_z w128 middle ≡ pos middle = omega (arith, ints) in
    let read : c.at.result ≡ word list middle = c.at.ensures.value ∙ ap (entry a.lists c.args.array) place in
    let here : c.args.value <ℤ c.at.result = omega (arith, ints) in
    let half : digits (middle - low) + 1 ≤ digits (high - low) = digits_half (middle - low) (high - low) (omega arith) (omega arith) in
    record {
      ordered = omega arith;
      inside = omega arith;
      low = c.loop-low.invariant.low;
      high = λ s from below. let order : word list middle ≤ℤ word list s = c.requires middle s from (omega arith) in omega (arith, ints, order, here, read, is);
      ticks = omega (arith, half, c.loop-low.invariant.ticks, c.at.ensures.cost);
    }

pub returns-clause-count : goal.returns-clause-count
returns-clause-count g c =
    let list = list_of c.args.arrays.now.lists c.args.array in
    let low = c.loop-low.low in
    let len : c.len-len.result ≡ length list = c.len-len.ensures in
    let is : to_z w128 (of_z w128 c.args.value) ≡ c.args.value = to_z-of_z w128 c.args.value c.ranges.value in
    greatest_is (λ s. int_le (word list s) c.args.value) (length list - 1) low (omega arith)
    (λ s l. let order = c.loop-low.invariant.low s l in at_most_from (word list s) c.args.value (omega (arith, ints, order, is)))
    (λ s from below. let order = c.loop-low.invariant.high s (omega arith) (omega arith) in above_from (word list s) c.args.value (omega (arith, ints, order, is)))

pub returns-clause-cost : goal.returns-clause-cost
returns-clause-cost g c =
    let list = list_of c.args.arrays.now.lists c.args.array in
    let spent : c.loop-low.steps + digits (c.loop-low.high - c.loop-low.low) ≤ c.args.steps.now + digits (length list - 1) =
    subst (λ n. c.loop-low.steps + digits (c.loop-low.high - c.loop-low.low) ≤ c.args.steps.now + digits (n - 1)) c.len-len.ensures c.loop-low.invariant.ticks in
    let more : digits (length list - 1) ≤ digits (length list) = digits_more (length list - 1) (length list) (omega arith) in
    omega (arith, spent, more)
