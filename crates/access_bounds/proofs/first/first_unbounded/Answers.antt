use Rattle.std.proofs.Common.{arith}
use Rattle.std.proofs.lemmas.Result.{MatchResult-weaker}
use Rattle.access_bounds.proofs.Sharing.{none-seen, all-seen}
use Rattle.access_bounds.proofs.first.first_unbounded.Goals as goal

pub loop-place-init : goal.loop-place-init
loop-place-init c = none-seen c.args.decls.now c.args.props.now c.args.claims.now

pub returns-clause-bounded : goal.returns-clause-bounded
returns-clause-bounded c =
    MatchResult-weaker c.refusal.result (c.refusal.ensures c.args.decls.now c.args.props.now c.args.claims.now (all-seen c.args.decls.now c.args.props.now c.args.claims.now c.loop-place.place c.loop-place.first (omega arith) c.loop-place.invariant))
    (λ _ h. h) (λ _ _. tt)

pub returns-clause-first : goal.returns-clause-first
returns-clause-first c =
    MatchResult-weaker c.refusal.result (c.refusal.ensures c.args.decls.now c.args.props.now c.args.claims.now (all-seen c.args.decls.now c.args.props.now c.args.claims.now c.loop-place.place c.loop-place.first (omega arith) c.loop-place.invariant))
    (λ _ _. tt) (λ _ h. h)
