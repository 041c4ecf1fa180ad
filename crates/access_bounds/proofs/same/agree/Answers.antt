use Rattle.std.proofs.Common.{sym, ◌∙◌, arith}
use Rattle.std.proofs.lemmas.Bool.{false≢true}
use Rattle.access_bounds.proofs.Alike.{same-at, same-next, same-all, no, yes}
use Rattle.access_bounds.proofs.same.agree.Goals as goal

pub returns-then-not-same_diff : goal.returns-then-not-same_diff
returns-then-not-same_diff c =
    no (λ e. false≢true (sym c.if-not-same_diff.true ∙ c.same_diff.ensures.1 (same-at c.args.base.now c.args.other.now c.loop-place.place c.index-base-place.result c.index-other-place.result (omega arith) c.index-base-place.is c.index-other-place.is e)))

pub loop-place-preserved : goal.loop-place-preserved
loop-place-preserved c =
    same-next c.args.base.now c.args.other.now c.loop-place.place c.index-base-place.result c.index-other-place.result c.loop-place-test.true c.requires c.index-base-place.is c.index-other-place.is c.loop-place.invariant (c.same_diff.ensures.0 c.if-not-same_diff.false)

pub returns : goal.returns
returns c = yes (same-all c.args.base.now c.args.other.now c.loop-place.place (omega arith) c.requires c.loop-place.invariant)
