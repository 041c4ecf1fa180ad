use Rattle.std.proofs.Common.{rules, arith, FitsSigned, ◌≤◌, ◌+◌, length, unsigned_abs}
use mir.Syntax.{w128}
use Rattle.std.proofs.lemmas.Int.{to_z-of_z}
use Rattle.loop_core.specs.Variables.{bindings}
use Rattle.inspector_run.specs.Ready.{reach}
use Rattle.inspector_run.proofs.Near.{numbers_near}
use Rattle.inspector_run.proofs.tried.between.Goals as goal

pub returns-clause-near : goal.returns-clause-near
returns-clause-near g c =
    let k = length (bindings c.args.env.now) in
    let low : unsigned_abs c.value_of-next.result ≤ reach (k + 1) = omega arith in
    let high : unsigned_abs c.value_of-end.result ≤ reach (k + 1) = omega arith in
    let next_fits : FitsSigned w128 c.value_of-next.result = search rules in
    let end_fits : FitsSigned w128 c.value_of-end.result = search rules in
    rw (to_z-of_z w128 c.value_of-next.result next_fits, to_z-of_z w128 c.value_of-end.result end_fits)
    (numbers_near k c.value_of-next.result c.value_of-end.result low high)
