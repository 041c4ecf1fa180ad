use Rattle.std.proofs.Common.{◌≡◌, take}
use Rattle.uf_constraints.specs.Brackets.{numbered}
use Rattle.dep_extract.proofs.accesses.numbered.Given as goal

abbrev pub invariant-loop-place : goal.invariant-loop-place
invariant-loop-place l = l.brackets ≡ numbered 1 (take l.place l.accesses)
