use Rattle.std.proofs.Common.{take}
use Rattle.std.specs.List.{Contains}
use Rattle.bound_plain.specs.Plain.{TakenIn}
use Rattle.bound_plain.proofs.plain.grid.Grid.take_all.Given as goal

abbrev pub invariant-loop-diff : goal.invariant-loop-diff
invariant-loop-diff l = TakenIn l.atoms (Contains (take l.diff-index l.diffs)) l.initial.self.rows.items l.self.rows.items
