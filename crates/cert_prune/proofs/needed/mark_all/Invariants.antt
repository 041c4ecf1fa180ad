use Rattle.std.proofs.Common.{take}
use Rattle.cert_prune.specs.Needed.{IsMarked}
use Rattle.cert_prune.proofs.needed.mark_all.Given as goal

-- the numbers so far are marked
abbrev pub invariant-loop-k : goal.invariant-loop-k
invariant-loop-k l = IsMarked l.below (take l.k-index l.ks) l.fn.marks l.marks
