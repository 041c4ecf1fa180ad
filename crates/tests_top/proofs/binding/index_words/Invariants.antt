use Rattle.tests_top.proofs.binding.index_words.Given as goal

abbrev pub ghosts-entries : goal.ghosts-entries
ghosts-entries a = record { name = a.blank.name; parts = a.blank.parts }
