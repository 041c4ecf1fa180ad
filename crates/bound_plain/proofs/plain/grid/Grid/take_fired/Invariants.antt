use Rattle.bound_plain.specs.Plain.{TakenIn, IsResult}
use Rattle.bound_plain.proofs.plain.grid.Grid.take_fired.Given as goal

abbrev pub invariant-loop-at : goal.invariant-loop-at
invariant-loop-at l = TakenIn l.atoms (IsResult l.rules l.fired l.at) l.initial.self.rows.items l.self.rows.items
