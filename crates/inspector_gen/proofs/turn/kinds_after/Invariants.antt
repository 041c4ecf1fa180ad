use Rattle.std.proofs.Common.{◌≡◌, ◌++◌, drop, length}
use Rattle.inspector_gen.specs.Made.{AreFacts}
use Rattle.inspector_gen.specs.Kinds.{Facts, kind_of}
use Rattle.inspector_gen.specs.Quick.{kinds_after}
use Rattle.inspector_gen.proofs.turn.kinds_after.Given as goal

-- the kinds so far, and those of the variables that follow
abbrev pub invariant-loop-u : goal.invariant-loop-u
invariant-loop-u l = ((f : Facts) → AreFacts l.nest.decls l.nest.props l.closure f
    → l.kinds ++ kinds_after (kind_of f) l.taken (drop l.u-index l.left) ≡ kinds_after (kind_of f) l.taken l.left)
    × (length l.kinds ≡ l.u-index)
