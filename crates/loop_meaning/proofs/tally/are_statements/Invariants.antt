use Rattle.std.proofs.Common.{◌≡◌, ◌+◌, drop, length, List}
use Rattle.loop_core.specs.Lists.{Lists}
use Rattle.loop_core.specs.Binding.{Binding}
use Rattle.loop_core.specs.Instances.{body_instances}
use Rattle.loop_meaning.proofs.tally.are_statements.Given as goal

-- the items so far are statements
abbrev pub invariant-loop-item : goal.invariant-loop-item
invariant-loop-item l =
    (a : Lists) (env : List Binding) → length (body_instances a l.items env) ≡ l.item-index + length (body_instances a (drop l.item-index l.items) env)
