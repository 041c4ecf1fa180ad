use Rattle.std.proofs.Common.{◌≡◌, ◌<◌, ℕ, ℤ, List, length, slice_index_or, [], arith, w64, to_z, of_z, ap, ◌∙◌}
use Rattle.std.proofs.lemmas.List.{length-set, get_or_default}
use Rattle.bound_table.specs.Rows.{cell, lowered, AreMarked}
use Rattle.bound_table.proofs.Sets.{put-done, put-all, put-left, put-two}
use Rattle.bound_table.proofs.table.improve_rows.Goals as goal

pub loop-x-preserved : goal.loop-x-preserved
loop-x-preserved c =
    let lt : c.loop-x.x < length c.loop-x.rows = omega arith in
    let ltm : c.loop-x.x < length c.loop-x.marks = (let e = c.loop-x.invariant.marks_long in omega arith) in
    let a = c.improve.ensures in
    let first : slice_index_or c.loop-x.rows c.loop-x.x c.index-rows-x.result ≡ slice_index_or c.args.rows.now c.loop-x.x [] = get_or_default c.loop-x.rows c.loop-x.x c.index-rows-x.result [] lt ∙ c.loop-x.invariant.left c.loop-x.x (omega arith) in
    let second : slice_index_or c.loop-x.marks c.loop-x.x c.index-marks-x.result ≡ slice_index_or c.args.marks.now c.loop-x.x [] = get_or_default c.loop-x.marks c.loop-x.x c.index-marks-x.result [] ltm ∙ c.loop-x.invariant.marks_left c.loop-x.x (omega arith) in
    let wide : length (slice_index_or c.loop-x.rows c.loop-x.x c.index-rows-x.result) ≡ length c.args.from.now = ap length first ∙ c.requires.wide c.loop-x.x (omega arith) in
    let marks-wide : length (slice_index_or c.loop-x.marks c.loop-x.x c.index-marks-x.result) ≡ length c.args.from.now = ap length second ∙ c.requires.marks.wide c.loop-x.x (omega arith) ∙ c.requires.square in
    record {
      long = length-set c.loop-x.rows c.loop-x.x c.improve.new.self ∙ c.loop-x.invariant.long;
      wide = put-all c.loop-x.rows c.args.rows.now c.loop-x.x c.improve.new.self [] (λ r. length r ≡ length c.args.from.now) lt c.loop-x.invariant.wide (a.len ∙ wide);
      done = λ k y l ly. put-done c.loop-x.rows c.args.rows.now c.loop-x.x c.improve.new.self [] (λ k r. (y : ℕ) → y < length c.args.from.now → cell r y ≡ lowered c.args.a c.args.from.now (to_z w64 (of_z w64 c.args.c)) (slice_index_or c.args.rows.now k []) y) lt (λ k l y ly. c.loop-x.invariant.done k y l ly)
          (λ y ly. a.each y (omega arith) ∙ ap (λ (r : List ℤ). lowered c.args.a c.args.from.now (to_z w64 (of_z w64 c.args.c)) r y) first) k l y ly;
      left = put-left c.loop-x.rows c.args.rows.now c.loop-x.x c.improve.new.self [] c.loop-x.invariant.left;
      marks_long = length-set c.loop-x.marks c.loop-x.x c.improve.new.marks ∙ c.loop-x.invariant.marks_long;
      marks_wide = put-all c.loop-x.marks c.args.rows.now c.loop-x.x c.improve.new.marks [] (λ r. length r ≡ length c.args.from.now) ltm c.loop-x.invariant.marks_wide (a.marks_len ∙ marks-wide);
      marks_done = put-two c.loop-x.rows c.loop-x.marks c.loop-x.x c.improve.new.self [] c.improve.new.marks [] (λ k r s. AreMarked (length c.args.from.now) c.args.edge (slice_index_or c.args.rows.now k []) r (slice_index_or c.args.marks.now k []) s) lt ltm c.loop-x.invariant.marks_done
          (rw (wide, first, second) at a.marked);
      marks_left = put-left c.loop-x.marks c.args.marks.now c.loop-x.x c.improve.new.marks [] c.loop-x.invariant.marks_left;
    }
