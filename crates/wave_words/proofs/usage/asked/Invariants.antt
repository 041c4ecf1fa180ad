use Rattle.std.proofs.Common.{◌≡◌, drop}
use Rattle.wave_words.specs.Words.{texts, asked}
use Rattle.wave_words.proofs.usage.asked.Given as goal

-- the forms that are left decide
abbrev pub invariant-loop-form : goal.invariant-loop-form
invariant-loop-form l = asked (drop l.form-index l.forms) (texts l.words) ≡ asked l.forms (texts l.words)
