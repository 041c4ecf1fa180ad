use Rattle.std.proofs.Common.{◌≡◌, drop}
use Rattle.array_bind.specs.Matrix.{matrix_form}
use Rattle.array_bind.proofs.bind.matrix_form.Given as goal

abbrev pub invariant-loop-decl : goal.invariant-loop-decl
invariant-loop-decl l = matrix_form (drop l.decl-index l.decls) ≡ matrix_form l.decls
