use Rattle.bracket_claims.proofs.Data.{accessed-data}
use Rattle.bracket_claims.proofs.laws.accessed_arrays_hold_data.Goals as goal

pub returns : goal.returns
returns c nest a is_nest i p access = accessed-data nest a is_nest (c.nest_meets_conditions.ensures.terms nest is_nest) i p access
