use Rattle.std.proofs.Common.{rules, ◌≡◌, ◌+◌, ◌*◌, ◌≤◌, [], sym, subst}
use Rattle.loop_core.specs.declared.env.Env.TheVariants.{Empty}
use Rattle.loop_core.specs.declared.env.Env.TheFolds.{the_lemmas as of_env}
use Rattle.loop_core.specs.Variables.{bindings}
use Rattle.inspector_run.specs.Pairs.{visits_after, visits}
use Rattle.inspector_run.specs.Ready.{IsReady}
use Rattle.inspector_run.specs.Ticks.{brackets, searches, each_visit, found_arrays, listed}
use Rattle.inspector_run.proofs.Planned.{ticks_added}
use Rattle.inspector_run.proofs.pairs.all_pairs.Goals as goal

pub run-requires-clause-ready : goal.run-requires-clause-ready
run-requires-clause-ready g c =
    let none : bindings Empty ≡ [] = search (rules, of_env) in
    subst (IsReady c.args.arrays.now c.args.ops.now) (sym none) c.requires

pub returns-in_err-run-clause-ticks : goal.returns-in_err-run-clause-ticks
returns-in_err-run-clause-ticks g c =
    let a = c.args.arrays.now in
    let ops = c.args.ops.now in
    let none : bindings Empty ≡ [] = search (rules, of_env) in
    ticks_added c.args.steps.now c.invert.new.steps c.run.new.steps (brackets ops) (searches a ops) (listed a (found_arrays ops)) (visits a ops) c.invert.ensures.ticks
    (subst (λ e. c.run.new.steps ≤ c.invert.new.steps + (1 + visits_after a ops e) * each_visit a ops) none c.run.ensures.ticks)

pub returns-clause-ticks : goal.returns-clause-ticks
returns-clause-ticks g c =
    let a = c.args.arrays.now in
    let ops = c.args.ops.now in
    let none : bindings Empty ≡ [] = search (rules, of_env) in
    ticks_added c.args.steps.now c.invert.new.steps c.run.new.steps (brackets ops) (searches a ops) (listed a (found_arrays ops)) (visits a ops) c.invert.ensures.ticks
    (subst (λ e. c.run.new.steps ≤ c.invert.new.steps + (1 + visits_after a ops e) * each_visit a ops) none c.run.ensures.ticks)
