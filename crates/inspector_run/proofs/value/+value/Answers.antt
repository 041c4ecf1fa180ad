use Rattle.std.proofs.Common.{rules, FitsSigned, arith, ◌≤◌, length, unsigned_abs}
use mir.Syntax.{w128}
use Rattle.std.proofs.lemmas.Int.{to_z-of_z}
use Rattle.loop_core.specs.Binding.{value_in}
use Rattle.loop_core.specs.Variables.{bindings}
use Rattle.inspector_run.specs.Ready.{reach}
use Rattle.inspector_run.proofs.Held.{value_in_within}
use Rattle.inspector_run.proofs.value.+value.Goals as goal

pub value_of_atom-returns-in-Var-clause-within : goal.value_of_atom-returns-in-Var-clause-within
value_of_atom-returns-in-Var-clause-within g t c =
    let fits : FitsSigned w128 c.value.result = search rules in
    let env = bindings c.args.env.now in
    let within : unsigned_abs (value_in env c.in-Var.var) ≤ reach (length env) = value_in_within (length env) env c.in-Var.var c.requires.within in
    rw (to_z-of_z w128 c.value.result fits, c.value.ensures) (omega arith)
