use Rattle.std.proofs.Common.{rules, ◌≡◌, ◌∙◌, ℕ, pos, slice_index_or, arith, w64, to_z, of_z}
use Rattle.std.proofs.lemmas.List.{get_or_default}
use Rattle.std.proofs.lemmas.Int.{to_z-of_z}
use Rattle.bound_table.specs.Rows.{far, cell, step, mark_of}
use Rattle.bound_table.proofs.Sets.{set-done, set-left, put-done, put-left, stepped, mark-same}
use mir.Val.{SFits}
use Rattle.bound_table.proofs.row.improve_cells.Goals as goal

pub loop-y-preserved : goal.loop-y-preserved
loop-y-preserved c =
    let y : ℕ = c.loop-y.y in
    let h = c.improved-new.ensures in
    let f : SFits w64 c.improved-new.result = search rules in
    let f1 : SFits w64 (slice_index_or c.args.from.now c.loop-y.y (pos 0)) = search rules in
    let f2 : SFits w64 (slice_index_or c.loop-y.cells c.loop-y.y (pos 0)) = search rules in
    let left : slice_index_or c.loop-y.cells c.loop-y.y (pos 0) ≡ cell c.args.cells.now c.loop-y.y = get_or_default c.loop-y.cells c.loop-y.y (pos 0) far (omega arith) ∙ c.loop-y.invariant.left c.loop-y.y (omega arith) in
    let new : to_z w64 (of_z w64 c.improved-new.result) ≡ step (to_z w64 (of_z w64 c.args.start)) (cell c.args.from.now c.loop-y.y) (cell c.args.cells.now c.loop-y.y) = stepped _ _ _ _ _ _ f f1 f2 (get_or_default c.args.from.now c.loop-y.y (pos 0) far (omega arith)) left h in
    let k = c.marked.ensures in
    record {
      done = set-done c.loop-y.cells (λ k. step (to_z w64 (of_z w64 c.args.start)) (cell c.args.from.now k) (cell c.args.cells.now k)) c.loop-y.y (to_z w64 (of_z w64 c.improved-new.result)) (omega arith) c.loop-y.invariant.done new;
      left = set-left c.loop-y.cells c.args.cells.now c.loop-y.y (to_z w64 (of_z w64 c.improved-new.result)) c.loop-y.invariant.left;
      marks_done = put-done c.loop-y.marks c.args.marks.now c.loop-y.y c.marked.result 0 (λ k v. v ≡ mark_of (cell c.args.cells.now k) (step (to_z w64 (of_z w64 c.args.start)) (cell c.args.from.now k) (cell c.args.cells.now k)) (slice_index_or c.args.marks.now k 0) c.args.edge) (omega arith) c.loop-y.invariant.marks_done (k ∙ mark-same _ _ _ _ _ _ c.args.edge (to_z-of_z w64 (slice_index_or c.loop-y.cells c.loop-y.y (pos 0)) f2 ∙ left) new (c.loop-y.invariant.marks_left c.loop-y.y (omega arith)));
      marks_left = put-left c.loop-y.marks c.args.marks.now c.loop-y.y c.marked.result 0 c.loop-y.invariant.marks_left;
    }
