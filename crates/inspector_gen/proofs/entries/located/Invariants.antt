use Rattle.std.proofs.Common.{◌≡◌, drop}
use Rattle.std.specs.List.{flat_map}
use Rattle.inspector_gen.specs.Made.{AreFacts}
use Rattle.inspector_gen.specs.Kinds.{Facts, first_of, located_at}
use Rattle.inspector_gen.proofs.entries.located.Given as goal

-- no atom so far gives a kind
abbrev pub invariant-loop-a : goal.invariant-loop-a
invariant-loop-a l = (f : Facts) → AreFacts l.decls l.props l.closure f
    → first_of (flat_map (located_at f l.earlier l.v) (drop l.a-index l.closure.atoms)) ≡ first_of (flat_map (located_at f l.earlier l.v) f.atoms)
