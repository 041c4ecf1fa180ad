use Rattle.std.proofs.Common.{◌≡◌, ◌≤ℤ◌, drop}
use Rattle.loop_core.specs.Variables.{bindings}
use Rattle.loop_core.specs.Instances.{body_instances, turns, trips, bound}
use Rattle.loop_core.specs.Sequence.{after_all}
use Rattle.bench_loop.proofs.direct.+runs.Given as goal

-- what is left to run leads to the same end
abbrev pub invariant-run_body-loop-item : goal.invariant-run_body-loop-item
invariant-run_body-loop-item l =
    after_all (body_instances l.arrays (drop l.item-index l.items) (bindings l.env)) l.running
    ≡ after_all (body_instances l.arrays l.items (bindings l.env)) l.fn.running

abbrev pub invariant-run_turns-loop-i : goal.invariant-run_turns-loop-i
invariant-run_turns-loop-i l =
    (l.fn.lo ≤ℤ l.i)
    × (after_all (turns (trips l.i l.hi) l.i (λ i. body_instances l.arrays l.body (bound l.line i (bindings l.env)))) l.running
    ≡ after_all (turns (trips l.fn.lo l.hi) l.fn.lo (λ i. body_instances l.arrays l.body (bound l.line i (bindings l.env)))) l.fn.running)
