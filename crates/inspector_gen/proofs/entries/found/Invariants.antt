use Rattle.std.proofs.Common.{◌≡◌, drop, List}
use Rattle.std.specs.List.{flat_map}
use Rattle.loop_core.specs.declared.decl.PropDecl.{PropDecl}
use Rattle.inspector_gen.specs.Made.{AreFacts}
use Rattle.inspector_gen.specs.Kinds.{Facts, first_of, found_at}
use Rattle.inspector_gen.proofs.entries.found.Given as goal

-- no atom so far gives a kind
abbrev pub invariant-loop-a : goal.invariant-loop-a
invariant-loop-a l = (f : Facts) (props : List PropDecl) → AreFacts l.decls props l.closure f
    → first_of (flat_map (found_at f l.earlier l.v) (drop l.a-index l.closure.atoms)) ≡ first_of (flat_map (found_at f l.earlier l.v) f.atoms)
