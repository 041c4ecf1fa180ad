-- Why there is no universe.
use Rattle.std.specs.Prelude.{◌≡◌, ◌<◌, List, length}
use Rattle.loop_core.specs.declared.nest.Atom.{Atom}
use Rattle.uf_constraints.specs.declared.universe.UniverseRefusal.{UniverseRefusal}
use Rattle.uf_constraints.specs.declared.universe.UniverseRefusal.TheVariants.{TermsFull, Memory}

-- more than 96 atoms are due, and the count is their number; running out of memory has no cause here
abbrev pub IsCause : List Atom → UniverseRefusal → Type 0
IsCause due (TermsFull count) = (count ≡ length due) × (96 < length due)
IsCause due Memory = Unit {0}
