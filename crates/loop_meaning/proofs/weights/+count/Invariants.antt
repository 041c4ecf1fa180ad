use Rattle.std.proofs.Common.{◌≡◌, ◌+◌, ◌≤◌, ◌≤ℤ◌, drop, length}
use Rattle.loop_core.specs.Variables.{bindings}
use Rattle.loop_core.specs.Instances.{body_instances, turns, trips, bound}
use Rattle.loop_meaning.specs.Weights.{counted}
use Rattle.loop_meaning.proofs.weights.+count.Given as goal

-- the count so far and what is left are all
abbrev pub invariant-count_body-loop-item : goal.invariant-count_body-loop-item
invariant-count_body-loop-item l =
    (l.count ≤ 4294967295)
    × (counted (l.count + length (body_instances l.arrays (drop l.item-index l.items) (bindings l.env)))
    ≡ counted (l.before + length (body_instances l.arrays l.items (bindings l.env))))

abbrev pub invariant-count_turns-loop-i : goal.invariant-count_turns-loop-i
invariant-count_turns-loop-i l =
    (l.fn.lo ≤ℤ l.i)
    × (l.count ≤ 4294967295)
    × (counted (l.count + length (turns (trips l.i l.hi) l.i (λ i. body_instances l.arrays l.body (bound l.line i (bindings l.env)))))
    ≡ counted (l.before + length (turns (trips l.fn.lo l.hi) l.fn.lo (λ i. body_instances l.arrays l.body (bound l.line i (bindings l.env))))))
