use Rattle.std.proofs.Common.{◌≡◌, take}
use Rattle.std.specs.List.{flat_map}
use Rattle.uf_constraints.specs.Universe.{asked_beside}
use Rattle.uf_constraints.proofs.plain.asked.Given as goal

abbrev pub invariant-loop-atom : goal.invariant-loop-atom
invariant-loop-atom l = l.asked ≡ flat_map (asked_beside l.props) (take l.atom-index l.atoms)
