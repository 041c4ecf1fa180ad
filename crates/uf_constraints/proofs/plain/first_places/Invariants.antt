use Rattle.std.proofs.Common.{◌≡◌, [], take}
use Rattle.uf_constraints.specs.Universe.{all_listed}
use Rattle.uf_constraints.proofs.plain.first_places.Given as goal

abbrev pub invariant-loop-place : goal.invariant-loop-place
invariant-loop-place l = l.kept ≡ all_listed [] (take l.place l.atoms)
