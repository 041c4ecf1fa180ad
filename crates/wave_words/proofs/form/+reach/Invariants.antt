use Rattle.std.proofs.Common.{length}
use Rattle.wave_words.proofs.form.+reach.Given as goal

abbrev pub decreases-reach : goal.decreases-reach
decreases-reach l = length l.slots.now
