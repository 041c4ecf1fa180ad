use Rattle.std.proofs.Common.{sym, ◌∙◌, arith}
use Rattle.std.proofs.lemmas.Bool.{false≢true}
use Rattle.access_bounds.proofs.Alike.{not-next, not-all, not-none, seen-here, no, yes}
use Rattle.access_bounds.proofs.same.is_seen.Goals as goal

pub loop-earlier-init : goal.loop-earlier-init
loop-earlier-init c = not-none c.args.claim.now

pub loop-earlier-preserved : goal.loop-earlier-preserved
loop-earlier-preserved c =
    not-next c.args.seen.now c.loop-earlier.earlier-index c.earlier-item.result c.args.claim.now c.loop-earlier-test.true c.earlier-item.is c.loop-earlier.invariant (λ h. false≢true (sym c.if-have_one_system.false ∙ c.have_one_system.ensures.1 h))

pub returns-then-have_one_system : goal.returns-then-have_one_system
returns-then-have_one_system c =
    yes (seen-here c.args.seen.now c.loop-earlier.earlier-index c.earlier-item.result c.args.claim.now c.loop-earlier-test.true c.earlier-item.is (c.have_one_system.ensures.0 c.if-have_one_system.true))

pub returns : goal.returns
returns c = no (not-all c.args.seen.now c.loop-earlier.earlier-index c.args.claim.now (omega arith) c.loop-earlier.invariant)
