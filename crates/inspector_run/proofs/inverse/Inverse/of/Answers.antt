use Rattle.std.proofs.Common.{subst}
use Rattle.inspector_run.specs.Inverses.{IsListing}
use Rattle.inspector_run.proofs.inverse.Inverse.of.Goals as goal

pub returns-clause-right : goal.returns-clause-right
returns-clause-right g c = record {
  few = c.read_all.ensures.few;
  lists = subst (λ l. IsListing l c.in_ok-listing.listing) c.in_ok-values.ensures.entries c.in_ok-listing.ensures;
}
