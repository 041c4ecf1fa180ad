use Rattle.loop_core.proofs.terms.value.Given as goal

abbrev pub ghosts-value_opened : goal.ghosts-value_opened
ghosts-value_opened g a = record { name = a.blank.name; parts = a.blank.parts }
