use Rattle.std.proofs.Common.{◌≡◌, true, refl, sym, rules, ◌∙◌, ap, arith, ℤ, pos, ◌+ℤ◌, ◌*ℤ◌, FitsSigned, to_z, w64}
use Rattle.std.specs.Prelude.{int_le}
use Rattle.std.specs.Int.{w128}
use Rattle.std.proofs.lemmas.Int.{to_z-of_z, to_z_pos, int_wrap-mul_right}
use Rattle.wave_base.specs.Word.{wrapped}
use Rattle.wave_gen.specs.RightSide.{word}
use Rattle.wave_gen.proofs.right_side.term.Goals as goal

pub returns-then-from-row : goal.returns-then-from-row
returns-then-from-row c =
    let m = c.args.m.now in
    let column = word m.index c.args.at in
    let mul_fits : FitsSigned w64 c.mul.result = search rules in
    let get_fits : FitsSigned w64 c.get.result = search rules in
    let add_fits : FitsSigned w64 c.add.result = search rules in
    let column_fits : FitsSigned w64 c.get-column.result = search rules in
    let from_fits : FitsSigned w128 c.from.result = search rules in
    let product = simp to_z-of_z at c.mul.ensures in
    let sum = simp to_z-of_z at c.add.ensures in
    let is : c.mul.result ≡ wrapped (c.get.result *ℤ (c.get-column.result +ℤ pos 1)) =
    product ∙ ap (λ (z : ℤ). wrapped (c.get.result *ℤ z)) sum ∙ int_wrap-mul_right w64 c.get.result (c.get-column.result +ℤ pos 1) in
    let row : to_z w128 c.args.row ≡ pos c.args.row = to_z_pos w128 c.args.row (omega arith) in
    let from = simp to_z-of_z at c.from.ensures in
    let test = simp to_z-of_z at c.if-from-row.true in
    let within : int_le column (pos c.args.row) ≡ true = rw (← row, ← c.get-column.ensures) (ap (λ (z : ℤ). int_le z (to_z w128 c.args.row)) (sym from) ∙ test) in
    to_z-of_z w64 c.mul.result mul_fits ∙ is ∙ rw (within, c.get.ensures, c.get-column.ensures) refl
