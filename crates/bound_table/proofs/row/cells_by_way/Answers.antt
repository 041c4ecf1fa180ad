use Rattle.std.proofs.Common.{rules, ◌≡◌, ◌∙◌, ◌++◌, ◌∷◌, [], w64, to_z, of_z}
use Rattle.std.proofs.lemmas.Int.{to_z-of_z}
use mir.Val.{SFits}
use Rattle.bound_table.specs.Rows.{far, lowered}
use Rattle.bound_table.proofs.Sets.{push-done}
use Rattle.bound_table.proofs.row.cells_by_way.Goals as goal

pub loop-y-preserved : goal.loop-y-preserved
loop-y-preserved c =
    let e : c.push.new.self.items ≡ c.loop-y.new.items ++ to_z w64 (of_z w64 c.lower_of.result) ∷ [] = search rules in
    let fr : SFits w64 c.lower_of.result = search rules in
    let f0 : SFits w64 c.cell_at.result = search rules in
    let f1 : SFits w64 c.cell_at-in-loop-y.result = search rules in
    let f2 : SFits w64 c.cell_at-in-loop-y-2.result = search rules in
    let h = rw (to_z-of_z w64 c.cell_at.result f0, to_z-of_z w64 c.cell_at-in-loop-y.result f1, to_z-of_z w64 c.cell_at-in-loop-y-2.result f2, c.cell_at.ensures, c.cell_at-in-loop-y.ensures, c.cell_at-in-loop-y-2.ensures) at c.lower_of.ensures in
    record {
      long = search rules;
      each = push-done c.loop-y.new.items c.push.new.self.items c.loop-y.y (to_z w64 (of_z w64 c.lower_of.result)) far (λ k z. z ≡ lowered c.args.a c.args.from.now (to_z w64 (of_z w64 c.args.c)) c.args.cells.now k) e c.loop-y.invariant.long c.loop-y.invariant.each (to_z-of_z w64 c.lower_of.result fr ∙ h);
    }
