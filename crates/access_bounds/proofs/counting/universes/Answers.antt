use Rattle.std.proofs.Common.{arith}
use Rattle.uf_constraints.specs.declared.system.Universe.{Universe}
use Rattle.uf_constraints.proofs.Walked.{all_step}
use Rattle.bracket_claims.specs.Claims.{atoms_of, claim_size, Fits}
use Rattle.bracket_claims.specs.Small.{IsSmallClaim}
use Rattle.access_bounds.proofs.Counted.{at-item, if_err, all-few, map_step, full_at}
use Rattle.access_bounds.proofs.counting.universes.Goals as goal

pub claim_universe-requires : goal.claim_universe-requires
claim_universe-requires c = at-item IsSmallClaim c.args.claims.now c.loop-claim.claim-index c.claim-item.result c.loop-claim-test.true c.claim-item.is c.requires

pub loop-claim-preserved : goal.loop-claim-preserved
loop-claim-preserved c = record {
  atoms =
      map_step (λ (u : Universe). u.atoms) (atoms_of c.args.props.now) c.args.claims.now c.loop-claim.claim-index c.claim-item.result c.in_ok-u.u c.loop-claim.universes c.push.new.into c.loop-claim-test.true c.claim-item.is c.loop-claim.invariant.atoms c.in_ok-push.ensures c.in_ok-u.ensures.atoms;
  few =
      all_step (λ x. Fits (claim_size c.args.props.now x)) c.args.claims.now c.loop-claim.claim-index c.claim-item.result c.loop-claim-test.true c.claim-item.is c.loop-claim.invariant.few c.in_ok-u.ensures.fits;
}

pub returns-in_err-u-clause-full : goal.returns-in_err-u-clause-full
returns-in_err-u-clause-full c =
    if_err c.from_residual.result c.in_err-u.field-0.0 _ c.from_residual.ensures.1
    (full_at (claim_size c.args.props.now) c.args.claims.now c.loop-claim.claim-index c.claim-item.result c.in_err-u.field-0.0 c.loop-claim-test.true c.claim-item.is c.loop-claim.invariant.few c.in_err-u.ensures.full)

pub returns-clause-few : goal.returns-clause-few
returns-clause-few c = all-few (claim_size c.args.props.now) c.args.claims.now c.loop-claim.claim-index (omega arith) c.loop-claim.invariant.few
