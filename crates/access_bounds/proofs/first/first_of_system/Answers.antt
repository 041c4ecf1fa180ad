use Rattle.std.proofs.Common.{arith, sym}
use Rattle.access_bounds.specs.Shared.{HaveOneSystem}
use Rattle.access_bounds.proofs.Sharing.{below-next, lacking-at}
use Rattle.access_bounds.proofs.first.first_of_system.Goals as goal

pub loop-place-preserved : goal.loop-place-preserved
loop-place-preserved c decls props h =
    below-next decls props c.args.claims.now (HaveOneSystem c.args.lead.now) c.loop-place.place c.index-claims-place.result c.loop-place-test.true c.index-claims-place.is (c.loop-place.invariant decls props h)
    (c.in_default.ensures decls props h)

pub returns-in-Some : goal.returns-in-Some
returns-in-Some c decls props h = (
  lacking-at decls props c.args.claims.now c.loop-place.place c.index-claims-place.result c.in-Some.side c.loop-place-test.true c.index-claims-place.is (c.in-Some.ensures decls props h),
  c.loop-place.invariant decls props h,
)
