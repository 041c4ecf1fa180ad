-- The operations of a plan without the tests that are true by the operation before them.
use Rattle.std.specs.Prelude.{Bool, false, ◌&&◌, ◌||◌, ℕ, pos, ◌-ℤ◌, int_le, if◌then◌else◌, List, [], ◌∷◌}
use Rattle.loop_core.specs.declared.nest.VarId.{VarId}
use Rattle.loop_core.specs.declared.nest.Term.{Term}
use Rattle.loop_core.specs.declared.nest.Atom.{Atom}
use Rattle.loop_core.specs.declared.nest.Atom.TheVariants.{Zero, N, Nnz, Var}
use Rattle.uf_constraints.specs.declared.system.Diff.{Diff}
use Rattle.uf_constraints.specs.Same.{same_atom}
use Rattle.inspector_run.specs.declared.plan.InspOp.{InspOp}
use Rattle.inspector_run.specs.declared.plan.InspOp.TheVariants.{Loop, Let, Find, Locate, Test, Emit}

-- the atom with a constant
abbrev pub moved_by : ℕ → Atom → Term
moved_by k a = record { atom = a; plus = pos k }

-- the constraint is true where the first term is at most the second
abbrev pub follows : Term → Term → Diff → Bool
follows s t d = same_atom s.atom d.a && (same_atom t.atom d.b && int_le (t.plus -ℤ s.plus) d.c)

-- no size is below 0
abbrev pub is_of_sizes : Diff → Bool
is_of_sizes d = follows (moved_by 0 Zero) (moved_by 0 N) d || follows (moved_by 0 Zero) (moved_by 0 Nnz) d

-- a loop's variable is between its bounds
abbrev pub is_between : VarId → Term → Term → Diff → Bool
is_between v lo hi d = follows lo (moved_by 0 (Var v)) d || follows (moved_by 1 (Var v)) hi d

-- a variable is its term
abbrev pub is_equal : VarId → Term → Diff → Bool
is_equal v t d = follows t (moved_by 0 (Var v)) d || follows (moved_by 0 (Var v)) t d

-- the constraint is true at each value that the operation tries
abbrev pub is_said : InspOp → Diff → Bool
is_said (Loop v lo hi) d = is_between v lo hi d
is_said (Let v t) d = is_equal v t d
is_said (Find v f plus t) d = false
is_said (Locate v p plus t) d = false
is_said (Test e) d = false
is_said (Emit i j) d = false

abbrev pub is_sure : InspOp → Diff → Bool
is_sure last d = is_of_sizes d || is_said last d

-- a test that needn't be made
abbrev pub is_needless : InspOp → InspOp → Bool
is_needless last (Test d) = is_sure last d
is_needless last (Loop v lo hi) = false
is_needless last (Let v t) = false
is_needless last (Find v f plus t) = false
is_needless last (Locate v p plus t) = false
is_needless last (Emit i j) = false

-- the operation that tried the last value
abbrev pub later : InspOp → InspOp → InspOp
later last (Test d) = last
later last (Loop v lo hi) = Loop v lo hi
later last (Let v t) = Let v t
later last (Find v f plus t) = Find v f plus t
later last (Locate v p plus t) = Locate v p plus t
later last (Emit i j) = last

-- those that are needed after an operation
abbrev pub needed_after : InspOp → List InspOp → List InspOp
needed_after last [] = []
needed_after last (op ∷ ops) = if is_needless last op then needed_after last ops else op ∷ needed_after (later last op) ops

abbrev pub needed : List InspOp → List InspOp
needed [] = []
needed (op ∷ ops) = op ∷ needed_after op ops
