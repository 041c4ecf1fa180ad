use Rattle.std.proofs.Common.{◌≡◌, drop}
use Rattle.std.specs.List.{flat_map}
use Rattle.inspector_gen.specs.Known.{IsTable}
use Rattle.inspector_gen.specs.Kinds.{Facts, first_of, kinds_if_fixed, kinds_along}
use Rattle.inspector_gen.proofs.ways.kind_along.Given as goal

-- no atom so far gives a kind
abbrev pub invariant-loop-a : goal.invariant-loop-a
invariant-loop-a l = (f : Facts) → f.atoms ≡ l.closure.atoms → IsTable l.closure f.bounds
    → first_of (flat_map (kinds_if_fixed f l.earlier l.v l.way) (drop l.a-index l.closure.atoms)) ≡ first_of (kinds_along f l.earlier l.v l.way)
