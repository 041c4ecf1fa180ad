-- Systems with small constants: they can be handed to `universe`, `instances` and `close`.
use Rattle.std.specs.Prelude.{◌^◌, List, [], ◌∷◌}
use Rattle.std.specs.List.{All}
use Rattle.uf_constraints.specs.declared.system.Diff.{Diff}
use Rattle.uf_constraints.specs.Constants.{DiffsWithin, TermsWithin}
use Rattle.rule_laws.specs.Small.{IsSmall}
use Rattle.bracket_claims.specs.declared.claim.Claim.{Claim}

-- constants inside from -2^21 to 2^21, right sides from -2^23 to 2^23
pub record IsSmallBase (base : List Diff) : Type 0 where
  pub within : DiffsWithin (2 ^ 21) base
  pub sides : All IsSmall base

pub record IsSmallClaim (c : Claim) : Type 0 where
  pub base : IsSmallBase c.base
  pub term : TermsWithin (2 ^ 21) (c.at ∷ [])
