use Rattle.std.proofs.Common.{rules, arith, ◌≡◌, ◌+◌, ◌*◌, ◌<◌, ◌≤◌, ◌∷◌, ◌++◌, [], map, length, refl, ap, ◌∙◌, sym, subst, true, ℤ, FitsSigned}
use mir.Syntax.{w64, w128}
use Rattle.std.specs.List.{flat_map}
use Rattle.std.proofs.lemmas.Int.{to_z-of_z}
use Rattle.std.proofs.lemmas.List.{append-nil}
use Rattle.std.proofs.lemmas.List.Elements.{All-head, All-tail}
use Rattle.std.proofs.lemmas.Result.{on_ok_weaker}
use Rattle.loop_core.specs.Variables.{bindings}
use Rattle.inspector_run.specs.declared.plan.InspOp.TheVariants.{Loop, Let, Find, Locate, Test, Emit}
use Rattle.inspector_run.specs.Left.{left}
use Rattle.inspector_run.specs.Pairs.{fixed as and_fixed}
use Rattle.inspector_run.specs.Pairs.{met, as_rows, visits_after, visits_along}
use Rattle.inspector_run.specs.Ticks.{each_visit, found_in}
use Rattle.inspector_run.specs.Ready.{IsNear, IsReady, AreReady}
use Rattle.inspector_run.specs.Inverses.{Serve}
use Rattle.inspector_run.specs.Tries.{tried}
use Rattle.inspector_run.proofs.Along.{pairs_step, pairs_end, ticks_step, ticks_end}
use Rattle.inspector_run.proofs.Arms.{op_near, op_ascending, op_served, arm_ready, arm_pairs, arm_ticks, test_ready, test_pairs, test_ticks, emit_earlier, emit_ready, emit_pairs, emit_ticks, more_ticks}
use Rattle.inspector_run.proofs.Sorting.{serve_head, serve_tail}
use Rattle.inspector_run.proofs.run.+run.Goals as goal

-- Operations in order.

pub run-run_first-requires : goal.run-run_first-requires
run-run_first-requires g t c κs within =
    let a = c.args.arrays.now in
    let env = bindings c.args.env.now in
    let is : c.args.ops.now ≡ c.in-Some.op.now ∷ c.in-Some.after.now = c.in-Some.ensures {u = tt} in
    let ready : IsReady a (c.in-Some.op.now ∷ c.in-Some.after.now) env = subst (λ o. IsReady a o env) is c.requires.ready in
    let served : Serve a c.args.inverses.now (flat_map found_in (c.in-Some.op.now ∷ c.in-Some.after.now)) = subst (λ o. Serve a c.args.inverses.now (flat_map found_in o)) is c.requires.served in
    let fewer : 3 * length c.in-Some.after.now + 2 < 3 * length c.args.ops.now = omega (arith, ap length is) in
    search (rules, c.decreases)

pub run-returns-in-None-clause-pairs : goal.run-returns-in-None-clause-pairs
run-returns-in-None-clause-pairs g t c =
    sym (append-nil c.args.pairs.now.items) ∙ ap (λ o. c.args.pairs.now.items ++ map as_rows (met c.args.arrays.now o (bindings c.args.env.now))) (sym (c.in-None.ensures {u = tt}))

pub run-returns-in-None-clause-ticks : goal.run-returns-in-None-clause-ticks
run-returns-in-None-clause-ticks g t c = more_ticks c.args.steps.now ((1 + visits_after c.args.arrays.now c.args.ops.now (bindings c.args.env.now)) * each_visit c.args.arrays.now c.args.ops.now)

pub run-returns-in-Some-clause-pairs : goal.run-returns-in-Some-clause-pairs
run-returns-in-Some-clause-pairs g t c =
    on_ok_weaker c.run_first.result (λ e. e ∙ ap (λ o. c.args.pairs.now.items ++ map as_rows (met c.args.arrays.now o (bindings c.args.env.now))) (sym (c.in-Some.ensures {u = tt}))) c.run_first.ensures.pairs

pub run-returns-in-Some-clause-ticks : goal.run-returns-in-Some-clause-ticks
run-returns-in-Some-clause-ticks g t c =
    subst (λ o. c.run_first.new.steps ≤ c.args.steps.now + (1 + visits_after c.args.arrays.now o (bindings c.args.env.now)) * each_visit c.args.arrays.now o) (sym (c.in-Some.ensures {u = tt})) c.run_first.ensures.ticks

-- Each value of a variable.

pub run_along-loop-value-init : goal.run_along-loop-value-init
run_along-loop-value-init g t c = record { ready = c.requires.ready; pairs = refl; ticks = omega arith }

pub run_along-run-requires : goal.run_along-run-requires
run_along-run-requires g t c κs within =
    let a = c.args.arrays.now in
    let env = bindings c.args.env.now in
    let R = λ (x : ℤ). IsReady a c.args.after.now (and_fixed c.args.var x env) in
    let split : left c.loop-value.tries ≡ c.in-Some.value ∷ left c.in-Some.rest = c.in-Some.ensures {u = tt} in
    let all : AreReady a c.args.after.now c.args.var env (c.in-Some.value ∷ left c.in-Some.rest) = subst (AreReady a c.args.after.now c.args.var env) split c.loop-value.invariant.ready in
    let fits : FitsSigned w128 c.in-Some.value = search rules in
    let bound : bindings c.fixed-inner.result ≡ and_fixed c.args.var c.in-Some.value (bindings c.args.env.now) = rw (to_z-of_z w128 c.in-Some.value fits) at c.fixed-inner.ensures in
    let ready : IsReady a c.args.after.now (bindings c.fixed-inner.result) = subst (IsReady a c.args.after.now) (sym bound) (All-head R c.in-Some.value (left c.in-Some.rest) all) in
    let served : Serve a c.args.inverses.now (flat_map found_in c.args.after.now) = c.requires.served in
    let fewer : 3 * length c.args.after.now < 3 * length c.args.after.now + 1 = omega arith in
    search (rules, c.decreases)

pub run_along-loop-value-smaller : goal.run_along-loop-value-smaller
run_along-loop-value-smaller g t c =
    let split : left c.loop-value.tries ≡ c.in-Some.value ∷ left c.in-Some.rest = c.in-Some.ensures {u = tt} in
    let fewer : length (left c.in-Some.rest) < length (left c.loop-value.tries) = omega (arith, ap length split) in
    fewer

pub run_along-loop-value-preserved : goal.run_along-loop-value-preserved
run_along-loop-value-preserved g t c =
    let a = c.args.arrays.now in
    let env = bindings c.args.env.now in
    let after = c.args.after.now in
    let R = λ (x : ℤ). IsReady a after (and_fixed c.args.var x env) in
    let split : left c.loop-value.tries ≡ c.in-Some.value ∷ left c.in-Some.rest = c.in-Some.ensures {u = tt} in
    let all : AreReady a after c.args.var env (c.in-Some.value ∷ left c.in-Some.rest) = subst (AreReady a after c.args.var env) split c.loop-value.invariant.ready in
    let fits : FitsSigned w128 c.in-Some.value = search rules in
    let bound : bindings c.fixed-inner.result ≡ and_fixed c.args.var c.in-Some.value (bindings c.args.env.now) = rw (to_z-of_z w128 c.in-Some.value fits) at c.fixed-inner.ensures in
    record {
      ready = All-tail R c.in-Some.value (left c.in-Some.rest) all;
      pairs = pairs_step (met a after) c.args.var env c.in-Some.value (left c.in-Some.rest) (left c.loop-value.tries) c.loop-value.pairs.items c.run.new.pairs.items _ split
          (c.in_ok-run.ensures.pairs ∙ ap (λ e. c.loop-value.pairs.items ++ map as_rows (met a after e)) bound) c.loop-value.invariant.pairs;
      ticks = ticks_step (visits_after a after) c.args.var env c.in-Some.value (left c.in-Some.rest) (left c.loop-value.tries) c.loop-value.steps c.run.new.steps (each_visit a after) _ split
          (subst (λ e. c.run.new.steps ≤ c.loop-value.steps + (1 + visits_after a after e) * each_visit a after) bound c.in_ok-run.ensures.ticks) c.loop-value.invariant.ticks;
    }

pub run_along-returns-in_err-run-clause-pairs : goal.run_along-returns-in_err-run-clause-pairs
run_along-returns-in_err-run-clause-pairs g t c = search rules

pub run_along-returns-in_err-run-clause-ticks : goal.run_along-returns-in_err-run-clause-ticks
run_along-returns-in_err-run-clause-ticks g t c =
    let a = c.args.arrays.now in
    let env = bindings c.args.env.now in
    let after = c.args.after.now in
    let fits : FitsSigned w128 c.in-Some.value = search rules in
    let bound : bindings c.fixed-inner.result ≡ and_fixed c.args.var c.in-Some.value (bindings c.args.env.now) = rw (to_z-of_z w128 c.in-Some.value fits) at c.fixed-inner.ensures in
    ticks_end c.run.new.steps (visits_along (visits_after a after) c.args.var env (left c.in-Some.rest)) (each_visit a after) _
    (ticks_step (visits_after a after) c.args.var env c.in-Some.value (left c.in-Some.rest) (left c.loop-value.tries) c.loop-value.steps c.run.new.steps (each_visit a after) _ (c.in-Some.ensures {u = tt})
    (subst (λ e. c.run.new.steps ≤ c.loop-value.steps + (1 + visits_after a after e) * each_visit a after) bound c.in_err-run.ensures.ticks) c.loop-value.invariant.ticks)

pub run_along-returns-clause-pairs : goal.run_along-returns-clause-pairs
run_along-returns-clause-pairs g t c =
    let none : left c.loop-value.tries ≡ [] = search rules in
    pairs_end (met c.args.arrays.now c.args.after.now) c.args.var (bindings c.args.env.now) (left c.loop-value.tries) c.loop-value.pairs.items _ none c.loop-value.invariant.pairs

pub run_along-returns-clause-ticks : goal.run_along-returns-clause-ticks
run_along-returns-clause-ticks g t c =
    ticks_end c.loop-value.steps (visits_along (visits_after c.args.arrays.now c.args.after.now) c.args.var (bindings c.args.env.now) (left c.loop-value.tries)) (each_visit c.args.arrays.now c.args.after.now) _ c.loop-value.invariant.ticks

-- One operation.

pub run_first-between-tries-requires-clause-held : goal.run_first-between-tries-requires-clause-held
run_first-between-tries-requires-clause-held g t c = c.requires.ready.held

pub run_first-between-tries-requires-clause-low : goal.run_first-between-tries-requires-clause-low
run_first-between-tries-requires-clause-low g t c =
    let near : IsNear (Loop c.in-Loop.var c.in-Loop.lo c.in-Loop.hi) = op_near c.args.arrays.now c.args.op.now (Loop c.in-Loop.var c.in-Loop.lo c.in-Loop.hi) c.args.after.now (bindings c.args.env.now) c.in-Loop.is c.requires.ready in near.0

pub run_first-between-tries-requires-clause-high : goal.run_first-between-tries-requires-clause-high
run_first-between-tries-requires-clause-high g t c =
    let near : IsNear (Loop c.in-Loop.var c.in-Loop.lo c.in-Loop.hi) = op_near c.args.arrays.now c.args.op.now (Loop c.in-Loop.var c.in-Loop.lo c.in-Loop.hi) c.args.after.now (bindings c.args.env.now) c.in-Loop.is c.requires.ready in near.1

pub run_first-run_along-requires : goal.run_first-run_along-requires
run_first-run_along-requires g t c κs within =
    let a = c.args.arrays.now in
    let env = bindings c.args.env.now in
    let after = c.args.after.now in
    let o = Loop c.in-Loop.var c.in-Loop.lo c.in-Loop.hi in
    let values : left c.between-tries.result ≡ tried a env o = c.between-tries.ensures.values in
    let ready : AreReady a after c.in-Loop.var env (left c.between-tries.result) = arm_ready a c.args.op.now o after c.in-Loop.var env (left c.between-tries.result) c.in-Loop.is values refl refl c.between-tries.ensures.near c.requires.ready in
    let served : Serve a c.args.inverses.now (flat_map found_in after) = op_served a c.args.inverses.now c.args.op.now o after c.in-Loop.is c.requires.served in
    let fewer : 3 * length after + 1 < 3 * length after + 2 = omega arith in
    search (rules, c.decreases)

pub run_first-returns-in-Loop-clause-pairs : goal.run_first-returns-in-Loop-clause-pairs
run_first-returns-in-Loop-clause-pairs g t c =
    let a = c.args.arrays.now in
    let env = bindings c.args.env.now in
    let after = c.args.after.now in
    let o = Loop c.in-Loop.var c.in-Loop.lo c.in-Loop.hi in
    let values : left c.between-tries.result ≡ tried a env o = c.between-tries.ensures.values in
    on_ok_weaker c.run_along.result (arm_pairs a c.args.op.now o after c.in-Loop.var env (left c.between-tries.result) c.args.pairs.now.items c.run_along.new.pairs.items c.in-Loop.is values refl) c.run_along.ensures.pairs

pub run_first-returns-in-Loop-clause-ticks : goal.run_first-returns-in-Loop-clause-ticks
run_first-returns-in-Loop-clause-ticks g t c =
    let a = c.args.arrays.now in
    let env = bindings c.args.env.now in
    let after = c.args.after.now in
    let o = Loop c.in-Loop.var c.in-Loop.lo c.in-Loop.hi in
    let values : left c.between-tries.result ≡ tried a env o = c.between-tries.ensures.values in
    arm_ticks a c.args.op.now o after c.in-Loop.var env (left c.between-tries.result) c.args.steps.now c.between-tries.new.steps c.run_along.new.steps c.in-Loop.is values refl (omega (arith, c.between-tries.ensures.cost)) c.run_along.ensures.ticks

pub run_first-alone-tries-requires-clause-held : goal.run_first-alone-tries-requires-clause-held
run_first-alone-tries-requires-clause-held g t c = c.requires.ready.held

pub run_first-alone-tries-requires-clause-small : goal.run_first-alone-tries-requires-clause-small
run_first-alone-tries-requires-clause-small g t c =
    let near : IsNear (Let c.in-Let.var c.in-Let.term) = op_near c.args.arrays.now c.args.op.now (Let c.in-Let.var c.in-Let.term) c.args.after.now (bindings c.args.env.now) c.in-Let.is c.requires.ready in near

pub run_first-run_along-requires-in-Let : goal.run_first-run_along-requires-in-Let
run_first-run_along-requires-in-Let g t c κs within =
    let a = c.args.arrays.now in
    let env = bindings c.args.env.now in
    let after = c.args.after.now in
    let o = Let c.in-Let.var c.in-Let.term in
    let values : left c.alone-tries.result ≡ tried a env o = c.alone-tries.ensures.values in
    let ready : AreReady a after c.in-Let.var env (left c.alone-tries.result) = arm_ready a c.args.op.now o after c.in-Let.var env (left c.alone-tries.result) c.in-Let.is values refl refl c.alone-tries.ensures.near c.requires.ready in
    let served : Serve a c.args.inverses.now (flat_map found_in after) = op_served a c.args.inverses.now c.args.op.now o after c.in-Let.is c.requires.served in
    let fewer : 3 * length after + 1 < 3 * length after + 2 = omega arith in
    search (rules, c.decreases)

pub run_first-returns-in-Let-clause-pairs : goal.run_first-returns-in-Let-clause-pairs
run_first-returns-in-Let-clause-pairs g t c =
    let a = c.args.arrays.now in
    let env = bindings c.args.env.now in
    let after = c.args.after.now in
    let o = Let c.in-Let.var c.in-Let.term in
    let values : left c.alone-tries.result ≡ tried a env o = c.alone-tries.ensures.values in
    on_ok_weaker c.run_along-in-Let.result (arm_pairs a c.args.op.now o after c.in-Let.var env (left c.alone-tries.result) c.args.pairs.now.items c.run_along-in-Let.new.pairs.items c.in-Let.is values refl) c.run_along-in-Let.ensures.pairs

pub run_first-returns-in-Let-clause-ticks : goal.run_first-returns-in-Let-clause-ticks
run_first-returns-in-Let-clause-ticks g t c =
    let a = c.args.arrays.now in
    let env = bindings c.args.env.now in
    let after = c.args.after.now in
    let o = Let c.in-Let.var c.in-Let.term in
    let values : left c.alone-tries.result ≡ tried a env o = c.alone-tries.ensures.values in
    arm_ticks a c.args.op.now o after c.in-Let.var env (left c.alone-tries.result) c.args.steps.now c.alone-tries.new.steps c.run_along-in-Let.new.steps c.in-Let.is values refl (omega (arith, c.alone-tries.ensures.cost)) c.run_along-in-Let.ensures.ticks

pub run_first-found-tries-requires-clause-held : goal.run_first-found-tries-requires-clause-held
run_first-found-tries-requires-clause-held g t c = c.requires.ready.held

pub run_first-found-tries-requires-clause-small : goal.run_first-found-tries-requires-clause-small
run_first-found-tries-requires-clause-small g t c =
    let near : IsNear (Find c.in-Find.var c.in-Find.array c.in-Find.plus c.in-Find.term) = op_near c.args.arrays.now c.args.op.now (Find c.in-Find.var c.in-Find.array c.in-Find.plus c.in-Find.term) c.args.after.now (bindings c.args.env.now) c.in-Find.is c.requires.ready in
    let fits : FitsSigned w64 c.in-Find.plus = search rules in
    rw (to_z-of_z w64 c.in-Find.plus fits) near

pub run_first-found-tries-requires-clause-served : goal.run_first-found-tries-requires-clause-served
run_first-found-tries-requires-clause-served g t c =
    serve_head c.args.arrays.now c.args.inverses.now c.in-Find.array (flat_map found_in c.args.after.now)
    (op_served c.args.arrays.now c.args.inverses.now c.args.op.now (Find c.in-Find.var c.in-Find.array c.in-Find.plus c.in-Find.term) c.args.after.now c.in-Find.is c.requires.served)

pub run_first-run_along-requires-in-Find : goal.run_first-run_along-requires-in-Find
run_first-run_along-requires-in-Find g t c κs within =
    let a = c.args.arrays.now in
    let env = bindings c.args.env.now in
    let after = c.args.after.now in
    let o = Find c.in-Find.var c.in-Find.array c.in-Find.plus c.in-Find.term in
    let values : left c.found-tries.result ≡ tried a env o = (let fits : FitsSigned w64 c.in-Find.plus = search rules in rw (to_z-of_z w64 c.in-Find.plus fits) at c.found-tries.ensures.values) in
    let ready : AreReady a after c.in-Find.var env (left c.found-tries.result) = arm_ready a c.args.op.now o after c.in-Find.var env (left c.found-tries.result) c.in-Find.is values refl refl c.found-tries.ensures.near c.requires.ready in
    let served : Serve a c.args.inverses.now (flat_map found_in after) = serve_tail a c.args.inverses.now c.in-Find.array (flat_map found_in after) (op_served a c.args.inverses.now c.args.op.now o after c.in-Find.is c.requires.served) in
    let fewer : 3 * length after + 1 < 3 * length after + 2 = omega arith in
    search (rules, c.decreases)

pub run_first-returns-in-Find-clause-pairs : goal.run_first-returns-in-Find-clause-pairs
run_first-returns-in-Find-clause-pairs g t c =
    let a = c.args.arrays.now in
    let env = bindings c.args.env.now in
    let after = c.args.after.now in
    let o = Find c.in-Find.var c.in-Find.array c.in-Find.plus c.in-Find.term in
    let values : left c.found-tries.result ≡ tried a env o = (let fits : FitsSigned w64 c.in-Find.plus = search rules in rw (to_z-of_z w64 c.in-Find.plus fits) at c.found-tries.ensures.values) in
    on_ok_weaker c.run_along-in-Find.result (arm_pairs a c.args.op.now o after c.in-Find.var env (left c.found-tries.result) c.args.pairs.now.items c.run_along-in-Find.new.pairs.items c.in-Find.is values refl) c.run_along-in-Find.ensures.pairs

pub run_first-returns-in-Find-clause-ticks : goal.run_first-returns-in-Find-clause-ticks
run_first-returns-in-Find-clause-ticks g t c =
    let a = c.args.arrays.now in
    let env = bindings c.args.env.now in
    let after = c.args.after.now in
    let o = Find c.in-Find.var c.in-Find.array c.in-Find.plus c.in-Find.term in
    let values : left c.found-tries.result ≡ tried a env o = (let fits : FitsSigned w64 c.in-Find.plus = search rules in rw (to_z-of_z w64 c.in-Find.plus fits) at c.found-tries.ensures.values) in
    arm_ticks a c.args.op.now o after c.in-Find.var env (left c.found-tries.result) c.args.steps.now c.found-tries.new.steps c.run_along-in-Find.new.steps c.in-Find.is values refl (omega (arith, c.found-tries.ensures.cost)) c.run_along-in-Find.ensures.ticks

pub run_first-located-tries-requires-clause-held : goal.run_first-located-tries-requires-clause-held
run_first-located-tries-requires-clause-held g t c = c.requires.ready.held

pub run_first-located-tries-requires-clause-small : goal.run_first-located-tries-requires-clause-small
run_first-located-tries-requires-clause-small g t c =
    let near : IsNear (Locate c.in-Locate.var c.in-Locate.array c.in-Locate.plus c.in-Locate.term) = op_near c.args.arrays.now c.args.op.now (Locate c.in-Locate.var c.in-Locate.array c.in-Locate.plus c.in-Locate.term) c.args.after.now (bindings c.args.env.now) c.in-Locate.is c.requires.ready in
    let fits : FitsSigned w64 c.in-Locate.plus = search rules in
    rw (to_z-of_z w64 c.in-Locate.plus fits) near

pub run_first-located-tries-requires-clause-ascending : goal.run_first-located-tries-requires-clause-ascending
run_first-located-tries-requires-clause-ascending g t c =
    op_ascending c.args.arrays.now c.args.op.now (Locate c.in-Locate.var c.in-Locate.array c.in-Locate.plus c.in-Locate.term) c.args.after.now (bindings c.args.env.now) c.in-Locate.is c.requires.ready

pub run_first-run_along-requires-in-Locate : goal.run_first-run_along-requires-in-Locate
run_first-run_along-requires-in-Locate g t c κs within =
    let a = c.args.arrays.now in
    let env = bindings c.args.env.now in
    let after = c.args.after.now in
    let o = Locate c.in-Locate.var c.in-Locate.array c.in-Locate.plus c.in-Locate.term in
    let values : left c.located-tries.result ≡ tried a env o = (let fits : FitsSigned w64 c.in-Locate.plus = search rules in rw (to_z-of_z w64 c.in-Locate.plus fits) at c.located-tries.ensures.values) in
    let ready : AreReady a after c.in-Locate.var env (left c.located-tries.result) = arm_ready a c.args.op.now o after c.in-Locate.var env (left c.located-tries.result) c.in-Locate.is values refl refl c.located-tries.ensures.near c.requires.ready in
    let served : Serve a c.args.inverses.now (flat_map found_in after) = op_served a c.args.inverses.now c.args.op.now o after c.in-Locate.is c.requires.served in
    let fewer : 3 * length after + 1 < 3 * length after + 2 = omega arith in
    search (rules, c.decreases)

pub run_first-returns-in-Locate-clause-pairs : goal.run_first-returns-in-Locate-clause-pairs
run_first-returns-in-Locate-clause-pairs g t c =
    let a = c.args.arrays.now in
    let env = bindings c.args.env.now in
    let after = c.args.after.now in
    let o = Locate c.in-Locate.var c.in-Locate.array c.in-Locate.plus c.in-Locate.term in
    let values : left c.located-tries.result ≡ tried a env o = (let fits : FitsSigned w64 c.in-Locate.plus = search rules in rw (to_z-of_z w64 c.in-Locate.plus fits) at c.located-tries.ensures.values) in
    on_ok_weaker c.run_along-in-Locate.result (arm_pairs a c.args.op.now o after c.in-Locate.var env (left c.located-tries.result) c.args.pairs.now.items c.run_along-in-Locate.new.pairs.items c.in-Locate.is values refl) c.run_along-in-Locate.ensures.pairs

pub run_first-returns-in-Locate-clause-ticks : goal.run_first-returns-in-Locate-clause-ticks
run_first-returns-in-Locate-clause-ticks g t c =
    let a = c.args.arrays.now in
    let env = bindings c.args.env.now in
    let after = c.args.after.now in
    let o = Locate c.in-Locate.var c.in-Locate.array c.in-Locate.plus c.in-Locate.term in
    let values : left c.located-tries.result ≡ tried a env o = (let fits : FitsSigned w64 c.in-Locate.plus = search rules in rw (to_z-of_z w64 c.in-Locate.plus fits) at c.located-tries.ensures.values) in
    arm_ticks a c.args.op.now o after c.in-Locate.var env (left c.located-tries.result) c.args.steps.now c.located-tries.new.steps c.run_along-in-Locate.new.steps c.in-Locate.is values refl (omega (arith, c.located-tries.ensures.cost)) c.run_along-in-Locate.ensures.ticks

pub run_first-is_true-holds-requires : goal.run_first-is_true-holds-requires
run_first-is_true-holds-requires g t c = c.requires.ready.held

pub run_first-run_where-requires : goal.run_first-run_where-requires
run_first-run_where-requires g t c κs within =
    let a = c.args.arrays.now in
    let env = bindings c.args.env.now in
    let after = c.args.after.now in
    let ready : c.is_true-holds.result ≡ true → IsReady a after env = test_ready a c.args.op.now c.in-Test.diff after env c.is_true-holds.result c.in-Test.is c.is_true-holds.ensures.truth c.requires.ready in
    let served : Serve a c.args.inverses.now (flat_map found_in after) = op_served a c.args.inverses.now c.args.op.now (Test c.in-Test.diff) after c.in-Test.is c.requires.served in
    let fewer : 3 * length after + 1 < 3 * length after + 2 = omega arith in
    search (rules, c.decreases)

pub run_first-returns-in-Test-clause-pairs : goal.run_first-returns-in-Test-clause-pairs
run_first-returns-in-Test-clause-pairs g t c =
    on_ok_weaker c.run_where.result (test_pairs c.args.arrays.now c.args.op.now c.in-Test.diff c.args.after.now (bindings c.args.env.now) c.is_true-holds.result c.args.pairs.now.items c.run_where.new.pairs.items c.in-Test.is c.is_true-holds.ensures.truth) c.run_where.ensures.pairs

pub run_first-returns-in-Test-clause-ticks : goal.run_first-returns-in-Test-clause-ticks
run_first-returns-in-Test-clause-ticks g t c =
    test_ticks c.args.arrays.now c.args.op.now c.in-Test.diff c.args.after.now (bindings c.args.env.now) c.is_true-holds.result c.args.steps.now c.is_true-holds.new.steps c.run_where.new.steps c.in-Test.is c.is_true-holds.ensures.truth c.is_true-holds.ensures.cost c.run_where.ensures.ticks

pub run_first-emit-requires : goal.run_first-emit-requires
run_first-emit-requires g t c = emit_earlier c.args.arrays.now c.args.op.now c.in-Emit.first c.in-Emit.second c.args.after.now (bindings c.args.env.now) c.in-Emit.is c.requires.ready

pub run_first-returns-in_err-emit-in-Emit-clause-pairs : goal.run_first-returns-in_err-emit-in-Emit-clause-pairs
run_first-returns-in_err-emit-in-Emit-clause-pairs g t c = search rules

pub run_first-returns-in_err-emit-in-Emit-clause-ticks : goal.run_first-returns-in_err-emit-in-Emit-clause-ticks
run_first-returns-in_err-emit-in-Emit-clause-ticks g t c =
    more_ticks c.args.steps.now ((1 + visits_after c.args.arrays.now (c.args.op.now ∷ c.args.after.now) (bindings c.args.env.now)) * each_visit c.args.arrays.now (c.args.op.now ∷ c.args.after.now))

pub run_first-run-requires : goal.run_first-run-requires
run_first-run-requires g t c κs within =
    let a = c.args.arrays.now in
    let env = bindings c.args.env.now in
    let after = c.args.after.now in
    let ready : IsReady a after env = emit_ready a c.args.op.now c.in-Emit.first c.in-Emit.second after env c.in-Emit.is c.requires.ready in
    let served : Serve a c.args.inverses.now (flat_map found_in after) = op_served a c.args.inverses.now c.args.op.now (Emit c.in-Emit.first c.in-Emit.second) after c.in-Emit.is c.requires.served in
    let fewer : 3 * length after < 3 * length after + 2 = omega arith in
    search (rules, c.decreases)

pub run_first-returns-in_ok-emit-in-Emit-clause-pairs : goal.run_first-returns-in_ok-emit-in-Emit-clause-pairs
run_first-returns-in_ok-emit-in-Emit-clause-pairs g t c =
    on_ok_weaker c.run.result (emit_pairs c.args.arrays.now c.args.op.now c.in-Emit.first c.in-Emit.second c.args.after.now (bindings c.args.env.now) c.args.pairs.now.items c.emit.new.pairs.items c.run.new.pairs.items c.in-Emit.is c.in_ok-emit-in-Emit.ensures) c.run.ensures.pairs

pub run_first-returns-in_ok-emit-in-Emit-clause-ticks : goal.run_first-returns-in_ok-emit-in-Emit-clause-ticks
run_first-returns-in_ok-emit-in-Emit-clause-ticks g t c =
    emit_ticks c.args.arrays.now c.args.op.now c.in-Emit.first c.in-Emit.second c.args.after.now (bindings c.args.env.now) c.args.steps.now c.run.new.steps c.in-Emit.is c.run.ensures.ticks

-- After a test.

pub run_where-run-requires : goal.run_where-run-requires
run_where-run-requires g t c κs within =
    let ready : IsReady c.args.arrays.now c.args.after.now (bindings c.args.env.now) = c.requires.ready c.if-holds.true in
    let served : Serve c.args.arrays.now c.args.inverses.now (flat_map found_in c.args.after.now) = c.requires.served in
    let fewer : 3 * length c.args.after.now < 3 * length c.args.after.now + 1 = omega arith in
    search (rules, c.decreases)

pub run_where-returns-then-holds-clause-pairs : goal.run_where-returns-then-holds-clause-pairs
run_where-returns-then-holds-clause-pairs g t c = rw c.if-holds.true c.run.ensures.pairs

pub run_where-returns-then-holds-clause-ticks : goal.run_where-returns-then-holds-clause-ticks
run_where-returns-then-holds-clause-ticks g t c = rw c.if-holds.true c.run.ensures.ticks

pub run_where-returns-else-holds-clause-pairs : goal.run_where-returns-else-holds-clause-pairs
run_where-returns-else-holds-clause-pairs g t c = rw c.if-holds.false (sym (append-nil c.args.pairs.now.items))

pub run_where-returns-else-holds-clause-ticks : goal.run_where-returns-else-holds-clause-ticks
run_where-returns-else-holds-clause-ticks g t c = rw c.if-holds.false (omega arith)
