-- Plans by hand.
use Rattle.std.specs.Prelude.{ℕ, List, [], ◌∷◌, ◌++◌, pos}
use Rattle.wave_base.specs.declared.types.ArrayId.{ArrayId}
use Rattle.loop_core.specs.declared.nest.Side.TheVariants.{First, Second}
use Rattle.loop_core.specs.declared.nest.VarId.{VarId}
use Rattle.loop_core.specs.declared.nest.Atom.{Atom}
use Rattle.loop_core.specs.declared.nest.Atom.TheVariants.{Zero, N, Nnz, Var, At}
use Rattle.uf_constraints.specs.Universe.{plain}
use Rattle.uf_constraints.specs.Bases.{at_most, less}
use Rattle.inspector_run.specs.declared.plan.InspOp.{InspOp}
use Rattle.inspector_run.specs.declared.plan.InspOp.TheVariants.{Loop, Let, Find, Test, Emit}

-- the array of that number, and its entry at a variable
abbrev pub array : ℕ → ArrayId
array k = record { 0 = k }

abbrev pub entry_of : ℕ → VarId → Atom
entry_of k v = At (array k) (plain (Var v))

-- a <= b and a < b as tests
abbrev pub test_at_most : Atom → Atom → InspOp
test_at_most a b = Test (at_most (plain a) (plain b))

abbrev pub test_less : Atom → Atom → InspOp
test_less a b = Test (less (plain a) (plain b))

-- the earlier row, the later one, and a place in the later row
abbrev pub i : VarId
i = record { line = 1; side = First }

abbrev pub j : VarId
j = record { line = 1; side = Second }

abbrev pub p : VarId
p = record { line = 2; side = Second }

-- Arrays 0 to 2 are the starts of rows, the columns of entries and the places of the diagonal. Row j
-- reads, at each place p before its diagonal, what row i = col[p] has written.
abbrev pub columns_tried : List InspOp
columns_tried =
    Loop j (plain Zero) (plain N)
    ∷ test_at_most Zero N ∷ test_at_most Zero Nnz ∷ test_less (Var j) N
    ∷ Loop p (plain (entry_of 0 j)) (plain (entry_of 2 j))
    ∷ test_at_most (entry_of 0 j) (Var p) ∷ test_less (Var p) (entry_of 2 j)
    ∷ Let i (plain (entry_of 1 p))
    ∷ test_at_most Zero (Var i) ∷ test_less (Var i) (Var j) ∷ test_at_most (Var i) (entry_of 1 p) ∷ test_at_most (entry_of 1 p) (Var i)
    ∷ []

abbrev pub by_columns : List InspOp
by_columns = columns_tried ++ Emit i j ∷ []

-- Rows i and j have one value in array 4.
abbrev pub values_tried : List InspOp
values_tried =
    Loop i (plain Zero) (plain N)
    ∷ test_at_most Zero N ∷ test_at_most Zero Nnz ∷ test_at_most Zero (Var i)
    ∷ Find j (array 4) (pos 0) (plain (entry_of 4 i))
    ∷ test_less (Var i) (Var j) ∷ test_less (Var j) N ∷ test_at_most (entry_of 4 i) (entry_of 4 j) ∷ test_at_most (entry_of 4 j) (entry_of 4 i)
    ∷ []

abbrev pub by_values : List InspOp
by_values = values_tried ++ Emit i j ∷ []
