use Rattle.std.proofs.Common.{◌≡◌, false, take}
use Rattle.uf_constraints.specs.Same.{is_listed}
use Rattle.uf_constraints.proofs.plain.stands_in.Given as goal

abbrev pub invariant-loop-other : goal.invariant-loop-other
invariant-loop-other l = is_listed (take l.other-index l.atoms) l.atom ≡ false
