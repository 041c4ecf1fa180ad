use Rattle.std.proofs.Common.{rules, FitsSigned, arith, ◌≤◌, ◌^◌, unsigned_abs}
use mir.Syntax.{w128}
use Rattle.std.proofs.lemmas.Int.{to_z-of_z}
use Rattle.loop_core.specs.Binding.{value_in}
use Rattle.uf_constraints.proofs.Wide.{value_in_wide}
use Rattle.uf_constraints.proofs.truth.+value.Goals as goal

pub value_of_atom-returns-in-Var-clause-within : goal.value_of_atom-returns-in-Var-clause-within
value_of_atom-returns-in-Var-clause-within g t c =
    let fits : FitsSigned w128 c.value.result = search rules in
    let wide : unsigned_abs (value_in c.args.env.now c.in-Var.var) ≤ 2 ^ 65 = value_in_wide c.args.env.now c.in-Var.var c.requires in
    rw (to_z-of_z w128 c.value.result fits, c.value.ensures) (omega arith)
