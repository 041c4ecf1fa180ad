use Rattle.std.proofs.Common.{take}
use Rattle.access_bounds.specs.Shared.{IsSeen, IsFirstOf}
use Rattle.access_bounds.proofs.first.first_unbounded.Given as goal

abbrev pub invariant-loop-place : goal.invariant-loop-place
invariant-loop-place l = IsFirstOf l.decls l.props l.claims (IsSeen (take l.place l.claims)) l.first
