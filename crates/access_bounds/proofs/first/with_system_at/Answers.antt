use Rattle.std.proofs.Common.{◌+◌, take, sym, subst}
use Rattle.access_bounds.specs.Shared.{IsFirstOf, IsSeen}
use Rattle.bracket_claims.specs.Small.{IsSmallClaim}
use Rattle.access_bounds.proofs.Counted.{at-item, universe_at}
use Rattle.access_bounds.proofs.Sharing.{seen-before, seen-now}
use Rattle.access_bounds.proofs.first.with_system_at.Goals as goal

pub returns-then-is_seen : goal.returns-then-is_seen
returns-then-is_seen c =
    seen-before c.args.decls.now c.args.props.now c.args.claims.now c.args.place c.index-claims-place.result c.args.first c.requires.place c.index-claims-place.is (c.is_seen.ensures.0 c.if-is_seen.true) c.requires.first

pub closure_of-requires-clause-small : goal.closure_of-requires-clause-small
closure_of-requires-clause-small c = at-item IsSmallClaim c.args.claims.now c.args.place c.index-claims-place.result c.requires.place c.index-claims-place.is c.requires.small

pub closure_of-requires-clause-atoms : goal.closure_of-requires-clause-atoms
closure_of-requires-clause-atoms c =
    universe_at c.args.props.now c.args.claims.now c.args.universes.now c.args.place c.index-claims-place.result c.index-universes-place.result c.requires.universes c.requires.place c.index-claims-place.is c.index-universes-place.is

pub returns : goal.returns
returns c =
    subst (IsFirstOf c.args.decls.now c.args.props.now c.args.claims.now (IsSeen (take (c.args.place + 1) c.args.claims.now))) (sym c.sooner.ensures)
    (seen-now c.args.decls.now c.args.props.now c.args.claims.now c.args.place c.index-claims-place.result c.args.first c.first_of_system.result c.requires.place c.index-claims-place.is c.requires.first
    (c.first_of_system.ensures c.args.decls.now c.args.props.now (c.in_ok-closure.ensures.atoms, c.in_ok-closure.ensures.closure)))
