use Rattle.std.proofs.Common.{take}
use Rattle.access_bounds.specs.Shared.{IsSeen}
use Rattle.access_bounds.proofs.same.is_seen.Given as goal

abbrev pub invariant-loop-earlier : goal.invariant-loop-earlier
invariant-loop-earlier l = IsSeen (take l.earlier-index l.seen) l.claim → ⊥
