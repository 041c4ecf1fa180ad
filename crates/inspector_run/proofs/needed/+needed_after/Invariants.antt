use Rattle.std.proofs.Common.{length}
use Rattle.inspector_run.proofs.needed.+needed_after.Given as goal

abbrev pub decreases-needed_after : goal.decreases-needed_after
decreases-needed_after l = length l.ops.now
