use Rattle.std.proofs.Common.{◌≡◌, ◌++◌, [], drop}
use Rattle.inspector_gen.specs.Made.{AreFacts}
use Rattle.inspector_gen.specs.Kinds.{Facts, kind_of}
use Rattle.inspector_gen.specs.Plans.{steps}
use Rattle.inspector_gen.proofs.steps.steps.Given as goal

-- the operations so far, and those of the variables that are left
abbrev pub invariant-loop-u : goal.invariant-loop-u
invariant-loop-u l = (f : Facts) → AreFacts l.nest.decls l.nest.props l.closure f
    → l.ops ++ steps (kind_of f) l.base l.fixed.items (drop l.u-index l.order) ≡ steps (kind_of f) l.base [] l.order
