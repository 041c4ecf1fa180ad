use Rattle.std.proofs.Common.{◌≡◌, ◌++◌, [], drop}
use Rattle.inspector_gen.specs.Plans.{steps}
use Rattle.inspector_gen.specs.Plain.{looped}
use Rattle.inspector_gen.proofs.plain.looped_steps.Given as goal

-- the operations so far, and those of the variables that are left
abbrev pub invariant-loop-u : goal.invariant-loop-u
invariant-loop-u l = l.ops ++ steps looped l.base l.fixed.items (drop l.u-index l.order) ≡ steps looped l.base [] l.order
