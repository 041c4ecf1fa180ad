use Rattle.std.proofs.Common.{◌≡◌, ◌+◌, ◌++◌, length}
use Rattle.inspector_gen.specs.Made.{AreFacts}
use Rattle.inspector_gen.specs.Kinds.{Facts, kind_of}
use Rattle.inspector_gen.specs.Quick.{one_by_one, in_turn}
use Rattle.inspector_gen.proofs.turn.in_turn.Given as goal

-- those taken so far, and those that are left one by one
abbrev pub invariant-loop : goal.invariant-loop
invariant-loop l = (l.counter + length l.left ≡ length l.fn.left)
    × ((f : Facts) → AreFacts l.nest.decls l.nest.props l.closure f → l.order ++ one_by_one (kind_of f) (length l.left) l.taken.items l.left ≡ in_turn (kind_of f) l.fn.left)
