use Rattle.std.proofs.Common.{◌≡◌, ◌++◌, map, take}
use Rattle.bracket_claims.specs.Claims.{claim}
use Rattle.bracket_claims.proofs.listing.push_claims.Given as goal

abbrev pub invariant-loop-bracket : goal.invariant-loop-bracket
invariant-loop-bracket l = l.into ≡ l.fn.into ++ map (claim l.nest l.spot) (take l.bracket-index l.spot.brackets)
