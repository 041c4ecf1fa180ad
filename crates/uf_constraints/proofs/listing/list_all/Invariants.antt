use Rattle.std.proofs.Common.{◌≡◌, take}
use Rattle.uf_constraints.specs.Universe.{all_listed}
use Rattle.uf_constraints.proofs.listing.list_all.Given as goal

abbrev pub invariant-loop-atom : goal.invariant-loop-atom
invariant-loop-atom l = l.into ≡ all_listed l.fn.into (take l.atom-index l.atoms)
