use Rattle.inspector_run.proofs.split.pairs_shared.Given as goal

abbrev pub ghosts-alone : goal.ghosts-alone
ghosts-alone g a = record { name = a.blank.name; parts = a.blank.parts }

abbrev pub ghosts-spread : goal.ghosts-spread
ghosts-spread g a = record { name = a.blank.name; parts = a.blank.parts }
