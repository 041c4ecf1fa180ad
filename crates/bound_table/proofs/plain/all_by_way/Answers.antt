use Rattle.std.proofs.Common.{rules, arith, ◌≡◌, ◌<◌, ◌∙◌, ◌++◌, ◌∷◌, [], ap, subst, length, slice_index_or, List, ℕ, ℤ, w64, to_z, of_z}
use Rattle.std.proofs.lemmas.List.{get_or_default}
use Rattle.bound_table.specs.Rows.{cell, lowered}
use Rattle.bound_table.proofs.Sets.{push-done}
use Rattle.bound_table.proofs.plain.all_by_way.Goals as goal

pub loop-x-preserved : goal.loop-x-preserved
loop-x-preserved c =
    let e : c.push.new.self.items ≡ c.loop-x.new.items ++ c.in_ok-by_way.field-0 ∷ [] = search rules in
    let lt : c.loop-x.x < length c.args.rows.now = omega arith in
    let row : c.index-rows-x.result ≡ slice_index_or c.args.rows.now c.loop-x.x [] = c.index-rows-x.is ∙ get_or_default c.args.rows.now c.loop-x.x c.index-rows-x.result [] lt in
    let wide : length c.index-rows-x.result ≡ length c.args.from.now = ap length row ∙ c.requires.wide c.loop-x.x lt in
    record {
      long = search rules;
      wide = push-done c.loop-x.new.items c.push.new.self.items c.loop-x.x c.in_ok-by_way.field-0 [] (λ k r. length r ≡ length c.args.from.now) e c.loop-x.invariant.long c.loop-x.invariant.wide (c.in_ok-by_way.ensures.len ∙ wide);
      each = λ k y lt ly. push-done c.loop-x.new.items c.push.new.self.items c.loop-x.x c.in_ok-by_way.field-0 [] (λ k r. (y : ℕ) → y < length c.args.from.now → cell r y ≡ lowered c.args.a c.args.from.now (to_z w64 (of_z w64 c.args.c)) (slice_index_or c.args.rows.now k []) y) e c.loop-x.invariant.long (λ k l y ly. c.loop-x.invariant.each k y l ly)
          (λ y ly. subst (λ (s : List ℤ). cell c.in_ok-by_way.field-0 y ≡ lowered c.args.a c.args.from.now (to_z w64 (of_z w64 c.args.c)) s y) row (c.in_ok-by_way.ensures.each y (omega arith)))
          k lt y ly;
    }
