-- Unit forward substitution as a nest: for each row i, x[i] = b[i], and then for each entry p of the row
-- before its diagonal, x[i] = x[i] - a.val[p] * x[a.col[p]].
use Rattle.std.specs.Prelude.{pos, codes, [], ◌∷◌}
use Rattle.wave_base.specs.declared.types.ArrayId.{ArrayId}
use Rattle.loop_core.specs.declared.decl.Form.TheVariants.{Csr}
use Rattle.loop_core.specs.declared.decl.Size.TheVariants.{N as of_n}
use Rattle.loop_core.specs.declared.decl.Source.TheVariants.{File, Zeros}
use Rattle.loop_core.specs.declared.decl.DeclKind.TheVariants.{Matrix, Vector}
use Rattle.loop_core.specs.declared.decl.PropKind.TheVariants.{Range, Rising, Sorted, Diagonal}
use Rattle.loop_core.specs.declared.nest.Side.TheVariants.{Own}
use Rattle.loop_core.specs.declared.nest.Atom.{Atom}
use Rattle.loop_core.specs.declared.nest.Atom.TheVariants.{Zero, N, Nnz, Var, At}
use Rattle.loop_core.specs.declared.nest.Term.{Term}
use Rattle.loop_core.specs.declared.nest.Op.TheVariants.{Sub, Mul}
use Rattle.loop_core.specs.declared.nest.Expr.TheVariants.{Read, Op}
use Rattle.loop_core.specs.declared.nest.Item.{Item}
use Rattle.loop_core.specs.declared.nest.Item.TheVariants.{For, Set}
use Rattle.loop_core.specs.declared.nest.Nest.{Nest}

abbrev pub plain : Atom → Term
plain atom = record { atom = atom; plus = pos 0 }

-- the variables of the outer loop and of the inner one
abbrev pub row : Term
row = plain (Var (record { line = 9; side = Own }))

abbrev pub place : Term
place = plain (Var (record { line = 11; side = Own }))

abbrev pub ptr : ArrayId
ptr = record { 0 = 0 }

abbrev pub col : ArrayId
col = record { 0 = 1 }

abbrev pub diag : ArrayId
diag = record { 0 = 2 }

abbrev pub val : ArrayId
val = record { 0 = 3 }

abbrev pub b : ArrayId
b = record { 0 = 4 }

abbrev pub x : ArrayId
x = record { 0 = 5 }

abbrev pub start : Item
start = Set 10 x row (Read b row)

abbrev pub subtract : Item
subtract = Set 12 x row (Op Sub (Read x row) (Op Mul (Read val place) (Read x (plain (At col place)))))

abbrev pub unit_forward : Nest
unit_forward = record {
  decls =
      record { line = 1; name = codes "a"; kind = Matrix Csr }
      ∷ record { line = 2; name = codes "b"; kind = Vector of_n File }
      ∷ record { line = 3; name = codes "x"; kind = Vector of_n Zeros }
      ∷ [];
  props =
      record { line = 4; kind = Range ptr (plain Zero) (record { atom = Nnz; plus = pos 1 }) }
      ∷ record { line = 5; kind = Range col (plain Zero) (plain N) }
      ∷ record { line = 6; kind = Rising ptr }
      ∷ record { line = 7; kind = Sorted col ptr }
      ∷ record { line = 8; kind = Diagonal diag col ptr }
      ∷ [];
  locals = [];
  line = 9;
  name = codes "i";
  body = start ∷ For 11 (codes "p") (plain (At ptr row)) (plain (At diag row)) (subtract ∷ []) ∷ [];
}
