use Rattle.bracket_claims.specs.Claims.{atoms_of}
use Rattle.access_bounds.proofs.counting.claim_universe.Goals as goal

pub returns-in-Err-clause-full : goal.returns-in-Err-clause-full
returns-in-Err-clause-full c =
    c.at_line.ensures (atoms_of c.args.props.now c.args.claim.now) (rw (c.as_slice.ensures, c.from_ref.ensures.value) at c.in-Err.ensures.cause)
