use Rattle.std.proofs.Common.{◌≡◌, ◌≤◌, drop, length}
use Rattle.std.specs.Prelude.{max}
use Rattle.wave_words.specs.Words.{texts}
use Rattle.wave_words.specs.Reach.{furthest}
use Rattle.wave_words.proofs.usage.furthest.Given as goal

abbrev pub invariant-loop-form : goal.invariant-loop-form
invariant-loop-form l = (max l.most (furthest (texts l.words) (drop l.form-index l.forms)) ≡ furthest (texts l.words) l.forms) × (l.most ≤ length l.words)
