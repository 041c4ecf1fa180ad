use Rattle.std.proofs.Common.{rules, ◌≡◌, sym, ap, ◌∙◌, w64, FitsSigned, to_z, of_z}
use Rattle.std.proofs.lemmas.Int.{to_z-of_z}
use Rattle.loop_core.specs.declared.nest.Expr.TheFolds.{the_lemmas as of_expr}
use Rattle.loop_core.specs.Variables.{bindings}
use Rattle.loop_core.specs.Instances.{Apply, formula}
use Rattle.loop_core.specs.Sequence.{formula_value}
use Rattle.loop_core.specs.Values.{operated}
use Rattle.loop_core.proofs.Formulas.{operation}
use Rattle.loop_meaning.proofs.exprs.+value.Goals as goal

pub returns-in-Op : goal.returns-in-Op
returns-in-Op t c =
    let x = c.args.running.now.lists in
    let locals = c.args.running.now.locals in
    let f = formula c.args.arrays.now (bindings c.args.env.now) in
    let left = c.get.result.now in
    let right = c.get-in-Op.result.now in
    let op = c.in-Op.op in
    let fits : FitsSigned w64 c.operate.result = search rules in
    let shape : f c.args.expr.now ≡ Apply op (f left) (f right) = search (rules, of_expr) in
    let fits_left : FitsSigned w64 c.value-left.result = search rules in
    let fits_right : FitsSigned w64 c.value-right.result = search rules in
    let one : to_z w64 (of_z w64 c.value-left.result) ≡ formula_value x locals (f left) = to_z-of_z w64 c.value-left.result fits_left ∙ c.value-left.ensures in
    let two : to_z w64 (of_z w64 c.value-right.result) ≡ formula_value x locals (f right) = to_z-of_z w64 c.value-right.result fits_right ∙ c.value-right.ensures in
    to_z-of_z w64 c.operate.result fits
    ∙ c.operate.ensures
    ∙ (λ i. operated op (one i) (two i))
    ∙ sym (operation x locals op (f left) (f right))
    ∙ sym (ap (formula_value x locals) shape)
