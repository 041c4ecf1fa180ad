use Rattle.std.proofs.Common.{[], ◌∷◌}
use Rattle.cert_prune.proofs.Marks.{both_marked}
use Rattle.cert_prune.proofs.needed.mark_two.Goals as goal

pub returns : goal.returns
returns c = both_marked c.args.below (c.args.k ∷ []) (c.args.l ∷ []) c.args.marks.now c.mark.new.marks c.mark-2.new.marks c.mark.ensures c.mark-2.ensures
