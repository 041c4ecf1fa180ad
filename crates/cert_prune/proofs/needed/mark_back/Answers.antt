use Rattle.std.proofs.Common.{◌≡◌, ◌<◌, ◌-◌, suc, arith, refl, subst, length, Some, slice_get}
use Rattle.std.proofs.lemmas.Option.{slice_get_read}
use Rattle.cert_prune.specs.Needed.{AreNeeded}
use Rattle.cert_prune.proofs.Marks.{needed_more, needed_all}
use Rattle.cert_prune.proofs.needed.mark_back.Goals as goal

pub loop-left-preserved : goal.loop-left-preserved
loop-left-preserved c =
    let at = c.loop-left.left - 1 in
    let steps = c.args.steps.now in
    let old = c.loop-left.marks in
    let lt : at < length steps = omega (arith, c.loop-left.invariant.within) in
    let is : slice_get steps at ≡ Some c.index-steps-left.result = slice_get_read steps (length steps) at c.index-steps-left.result refl lt c.index-steps-left.is in
    let before : AreNeeded (suc at) steps old = subst (λ k. AreNeeded k steps old) (omega arith) c.loop-left.invariant.needed in
    record {
      within = omega (arith, c.loop-left.invariant.within);
      needed = needed_more steps at c.index-steps-left.result is old c.mark_from.new.marks c.mark_from.ensures before;
    }

pub returns : goal.returns
returns c = needed_all c.loop-left.left c.args.steps.now c.loop-left.marks (omega arith) c.loop-left.invariant.needed
