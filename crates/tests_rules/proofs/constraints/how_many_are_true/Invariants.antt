use Rattle.tests_rules.proofs.constraints.how_many_are_true.Given as goal

abbrev pub ghosts-true_below : goal.ghosts-true_below
ghosts-true_below a = record { name = a.blank.name; parts = a.blank.parts }
