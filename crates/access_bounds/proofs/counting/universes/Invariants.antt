use Rattle.std.proofs.Common.{◌≡◌, map, take}
use Rattle.std.specs.List.{All}
use Rattle.bracket_claims.specs.Claims.{claim_size, Fits}
use Rattle.access_bounds.specs.Judged.{AreUniverses}
use Rattle.access_bounds.proofs.counting.universes.Given as goal

abbrev pub invariant-loop-claim : goal.invariant-loop-claim
invariant-loop-claim l = record {
  atoms : AreUniverses l.props (take l.claim-index l.claims) l.universes;
  few : All (λ c. Fits (claim_size l.props c)) (take l.claim-index l.claims);
}
