use Rattle.std.proofs.Common.{refl, arith}
use Rattle.cert_prune.proofs.Marks.{none_marked, marked_more, marked_whole}
use Rattle.std.proofs.Common.{slice_index_or}
use Rattle.cert_prune.proofs.needed.mark_all.Goals as goal

pub loop-k-init : goal.loop-k-init
loop-k-init c = none_marked c.args.below c.args.marks.now

pub loop-k-preserved : goal.loop-k-preserved
loop-k-preserved c =
    marked_more c.args.below c.args.ks.now c.loop-k.k-index (slice_index_or c.args.ks.now c.loop-k.k-index 0) c.args.marks.now c.loop-k.marks c.mark.new.marks c.loop-k-test.true refl c.loop-k.invariant c.mark.ensures

pub returns : goal.returns
returns c = marked_whole c.args.below c.args.ks.now c.loop-k.k-index c.args.marks.now c.loop-k.marks c.loop-k-test.false c.loop-k.invariant
