use Rattle.std.proofs.Common.{arith, sym, ◌<◌, length}
use Rattle.cert_check.proofs.Named.{named_long, named_at, rest_false, rest_true}
use Rattle.cert_check.proofs.step.are_named.Goals as goal

pub returns-then-premises-places : goal.returns-then-premises-places
returns-then-premises-places c = sym (named_long c.args.earlier.now c.args.premises.now c.args.places.now (omega arith))

pub returns-then-not-is_at : goal.returns-then-not-is_at
returns-then-not-is_at c =
    let lp : c.loop-i.i < length c.args.premises.now = omega arith in
    let lk : c.loop-i.i < length c.args.places.now = omega arith in
    let e = named_at c.args.earlier.now c.args.premises.now c.args.places.now c.loop-i.i c.index-premises-i.result lp lk c.index-premises-i.is in
    rest_false _ _ _ _ _ c.loop-i.invariant e c.is_at.ensures c.if-not-is_at.true

pub loop-i-preserved : goal.loop-i-preserved
loop-i-preserved c =
    let lp : c.loop-i.i < length c.args.premises.now = omega arith in
    let lk : c.loop-i.i < length c.args.places.now = omega arith in
    let e = named_at c.args.earlier.now c.args.premises.now c.args.places.now c.loop-i.i c.index-premises-i.result lp lk c.index-premises-i.is in
    rest_true _ _ _ _ _ c.loop-i.invariant e c.is_at.ensures c.if-not-is_at.false
