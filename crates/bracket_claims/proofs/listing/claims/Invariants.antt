use Rattle.std.proofs.Common.{◌≡◌, take}
use Rattle.std.specs.List.{flat_map}
use Rattle.bracket_claims.specs.Claims.{claims_on}
use Rattle.bracket_claims.proofs.listing.claims.Given as goal

abbrev pub invariant-loop-spot : goal.invariant-loop-spot
invariant-loop-spot l = l.claims ≡ flat_map (claims_on l.nest) (take l.spot-index l.spot-items)
