use Rattle.std.proofs.Common.{◌≡◌, ◌++◌, [], drop}
use Rattle.inspector_gen.specs.Made.{AreFacts}
use Rattle.inspector_gen.specs.Kinds.{Facts, kind_of}
use Rattle.inspector_gen.specs.Plans.{kinds_from}
use Rattle.inspector_gen.proofs.order.kinds.Given as goal

-- the kinds so far, and those of the variables that are left
abbrev pub invariant-loop-u : goal.invariant-loop-u
invariant-loop-u l = (f : Facts) → AreFacts l.nest.decls l.nest.props l.closure f
    → l.kinds ++ kinds_from (kind_of f) l.earlier.items (drop l.u-index l.order) ≡ kinds_from (kind_of f) [] l.order
