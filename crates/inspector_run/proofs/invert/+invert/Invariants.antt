use Rattle.std.proofs.Common.{length}
use Rattle.inspector_run.proofs.invert.+invert.Given as goal

abbrev pub decreases-invert : goal.decreases-invert
decreases-invert g l = length l.ops.now
