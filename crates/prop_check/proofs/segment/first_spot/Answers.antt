use Rattle.std.proofs.Common.{◌≡◌, ◌+◌, ◌-◌, arith, subst}
use Rattle.std.proofs.Math.Decide.{dec_lt}
use Rattle.loop_core.specs.Lists.{list_of}
use Rattle.prop_check.specs.Segments.{IsBadIn}
use Rattle.prop_check.proofs.Kept.{later}
use Rattle.prop_check.proofs.segment.first_spot.Goals as goal

pub loop-i-preserved : goal.loop-i-preserved
loop-i-preserved g c =
    let rule = c.args.by.rule in
    let fs = list_of c.args.arrays.now.lists c.args.by.f in
    let ps = list_of c.args.arrays.now.lists c.args.by.p in (
      λ j k lt bad. elim (dec_lt (j + 1) c.loop-i.i) [
        | yes l ↦ c.loop-i.invariant.0 j k l bad
        | no nl ↦
            let same : j ≡ c.loop-i.i - 1 = grind (arith, lt, nl) in
            c.in_default.ensures.least k (subst (λ n. IsBadIn rule fs ps n k) same bad)
      ],
      later rule fs (c.loop-i.i - 1) (c.loop-i.i + 1 - 1) c.first_in.new.skips.items (omega arith) c.first_in.ensures.skips,
    )
