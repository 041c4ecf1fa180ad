-- The plans by hand are plans.
use Rattle.std.proofs.Common.{◌^◌, ◌<◌, ◌≤◌, pos, [], ◌∷◌, refl, arith, unsigned_abs}
use Rattle.std.specs.List.{All}
use Rattle.std.proofs.lemmas.List.Elements.{All-from_recursion}
use Rattle.loop_core.specs.declared.nest.Atom.TheVariants.{Zero, N, Nnz, Var}
use Rattle.loop_core.specs.Lists.{Lists}
use Rattle.uf_constraints.specs.Universe.{plain}
use Rattle.inspector_run.specs.declared.plan.InspOp.TheVariants.{Loop, Let, Find, Emit}
use Rattle.inspector_run.specs.Ready.{SearchesAscending}
use Rattle.inspector_run.specs.IsPlan.{AreFixedInOrder, IsSmall, IsPlan}
use Rattle.inspection_samples.specs.Worked.{i, j, p, array, entry_of, test_at_most, test_less, columns_tried, by_columns, values_tried, by_values}
use Rattle.inspection_samples.proofs.Small.{of_zero, of_n, of_nnz, of_var, of_entry, of_both, among, in_zero, in_n, in_nnz, in_var, in_entry, small_at_most, small_less, small_term, none_ascend}

-- By columns.

columns_fixed : AreFixedInOrder [] by_columns
columns_fixed = (among [] (Loop j (plain Zero) (plain N)) [] (of_both Zero N [] [] of_zero of_n) refl, refl, (among (j ∷ []) (test_at_most Zero N) [] (of_both Zero N [] [] of_zero of_n) refl, refl, (among (j ∷ []) (test_at_most Zero Nnz) [] (of_both Zero Nnz [] [] of_zero of_nnz) refl, refl, (among (j ∷ []) (test_less (Var j) N) (j ∷ []) (of_both (Var j) N (j ∷ []) [] (of_var j) of_n) refl, refl, (among (j ∷ []) (Loop p (plain (entry_of 0 j)) (plain (entry_of 2 j))) (j ∷ j ∷ []) (of_both (entry_of 0 j) (entry_of 2 j) (j ∷ []) (j ∷ []) (of_entry 0 j) (of_entry 2 j)) refl, refl, (among (p ∷ j ∷ []) (test_at_most (entry_of 0 j) (Var p)) (j ∷ p ∷ []) (of_both (entry_of 0 j) (Var p) (j ∷ []) (p ∷ []) (of_entry 0 j) (of_var p)) refl, refl, (among (p ∷ j ∷ []) (test_less (Var p) (entry_of 2 j)) (p ∷ j ∷ []) (of_both (Var p) (entry_of 2 j) (p ∷ []) (j ∷ []) (of_var p) (of_entry 2 j)) refl, refl, (among (p ∷ j ∷ []) (Let i (plain (entry_of 1 p))) (p ∷ []) (of_entry 1 p) refl, refl, (among (i ∷ p ∷ j ∷ []) (test_at_most Zero (Var i)) (i ∷ []) (of_both Zero (Var i) [] (i ∷ []) of_zero (of_var i)) refl, refl, (among (i ∷ p ∷ j ∷ []) (test_less (Var i) (Var j)) (i ∷ j ∷ []) (of_both (Var i) (Var j) (i ∷ []) (j ∷ []) (of_var i) (of_var j)) refl, refl, (among (i ∷ p ∷ j ∷ []) (test_at_most (Var i) (entry_of 1 p)) (i ∷ p ∷ []) (of_both (Var i) (entry_of 1 p) (i ∷ []) (p ∷ []) (of_var i) (of_entry 1 p)) refl, refl, (among (i ∷ p ∷ j ∷ []) (test_at_most (entry_of 1 p) (Var i)) (p ∷ i ∷ []) (of_both (entry_of 1 p) (Var i) (p ∷ []) (i ∷ []) (of_entry 1 p) (of_var i)) refl, refl, (among (i ∷ p ∷ j ∷ []) (Emit i j) (i ∷ j ∷ []) refl refl, refl, tt)))))))))))))

columns_small : All IsSmall by_columns
columns_small =
    All-from_recursion IsSmall by_columns
    ((
      (small_term Zero (in_zero (2 ^ 31)), small_term N (in_n (2 ^ 31))),
      (
        small_at_most Zero N (in_zero (2 ^ 21)) (in_n (2 ^ 21)),
        (
          small_at_most Zero Nnz (in_zero (2 ^ 21)) (in_nnz (2 ^ 21)),
          (
            small_less (Var j) N (in_var (2 ^ 21) j) (in_n (2 ^ 21)),
            (
              (small_term (entry_of 0 j) (in_entry (2 ^ 31) 0 j refl), small_term (entry_of 2 j) (in_entry (2 ^ 31) 2 j refl)),
              (
                small_at_most (entry_of 0 j) (Var p) (in_entry (2 ^ 21) 0 j refl) (in_var (2 ^ 21) p),
                (
                  small_less (Var p) (entry_of 2 j) (in_var (2 ^ 21) p) (in_entry (2 ^ 21) 2 j refl),
                  (
                    small_term (entry_of 1 p) (in_entry (2 ^ 31) 1 p refl),
                    (
                      small_at_most Zero (Var i) (in_zero (2 ^ 21)) (in_var (2 ^ 21) i),
                      (
                        small_less (Var i) (Var j) (in_var (2 ^ 21) i) (in_var (2 ^ 21) j),
                        (
                          small_at_most (Var i) (entry_of 1 p) (in_var (2 ^ 21) i) (in_entry (2 ^ 21) 1 p refl),
                          (
                            small_at_most (entry_of 1 p) (Var i) (in_entry (2 ^ 21) 1 p refl) (in_var (2 ^ 21) i),
                            (
                              tt,
                              tt,
                            ),
                          ),
                        ),
                      ),
                    ),
                  ),
                ),
              ),
            ),
          ),
        ),
      ),
    ))

pub columns_plan : IsPlan by_columns
columns_plan =
    let low : 5 < 9 = omega arith in
    let apart : 6 < 9 = omega arith in
    let high : 2 < 9 = omega arith in
    let three : 3 ≤ 12 = omega arith in
    record {
      ends = (
        i,
        j,
        record {
          before = columns_tried;
          last = refl;
          once = refl;
          low = (5, low, refl);
          apart = (6, apart, refl);
          high = (2, high, refl);
        },
      );
      in_order = columns_fixed;
      few = three;
      small = columns_small;
    }

pub columns_ascend : (a : Lists) → All (SearchesAscending a) by_columns
columns_ascend a = none_ascend a by_columns (refl, (refl, (refl, (refl, (refl, (refl, (refl, (refl, (refl, (refl, (refl, (refl, (refl, tt)))))))))))))

-- By values.

values_fixed : AreFixedInOrder [] by_values
values_fixed = (among [] (Loop i (plain Zero) (plain N)) [] (of_both Zero N [] [] of_zero of_n) refl, refl, (among (i ∷ []) (test_at_most Zero N) [] (of_both Zero N [] [] of_zero of_n) refl, refl, (among (i ∷ []) (test_at_most Zero Nnz) [] (of_both Zero Nnz [] [] of_zero of_nnz) refl, refl, (among (i ∷ []) (test_at_most Zero (Var i)) (i ∷ []) (of_both Zero (Var i) [] (i ∷ []) of_zero (of_var i)) refl, refl, (among (i ∷ []) (Find j (array 4) (pos 0) (plain (entry_of 4 i))) (i ∷ []) (of_entry 4 i) refl, refl, (among (j ∷ i ∷ []) (test_less (Var i) (Var j)) (i ∷ j ∷ []) (of_both (Var i) (Var j) (i ∷ []) (j ∷ []) (of_var i) (of_var j)) refl, refl, (among (j ∷ i ∷ []) (test_less (Var j) N) (j ∷ []) (of_both (Var j) N (j ∷ []) [] (of_var j) of_n) refl, refl, (among (j ∷ i ∷ []) (test_at_most (entry_of 4 i) (entry_of 4 j)) (i ∷ j ∷ []) (of_both (entry_of 4 i) (entry_of 4 j) (i ∷ []) (j ∷ []) (of_entry 4 i) (of_entry 4 j)) refl, refl, (among (j ∷ i ∷ []) (test_at_most (entry_of 4 j) (entry_of 4 i)) (j ∷ i ∷ []) (of_both (entry_of 4 j) (entry_of 4 i) (j ∷ []) (i ∷ []) (of_entry 4 j) (of_entry 4 i)) refl, refl, (among (j ∷ i ∷ []) (Emit i j) (i ∷ j ∷ []) refl refl, refl, tt))))))))))

values_small : All IsSmall by_values
values_small =
    let none : unsigned_abs (pos 0) ≤ 2 ^ 31 = omega arith in
    All-from_recursion IsSmall by_values
    ((
      (small_term Zero (in_zero (2 ^ 31)), small_term N (in_n (2 ^ 31))),
      (
        small_at_most Zero N (in_zero (2 ^ 21)) (in_n (2 ^ 21)),
        (
          small_at_most Zero Nnz (in_zero (2 ^ 21)) (in_nnz (2 ^ 21)),
          (
            small_at_most Zero (Var i) (in_zero (2 ^ 21)) (in_var (2 ^ 21) i),
            (
              (none, small_term (entry_of 4 i) (in_entry (2 ^ 31) 4 i refl)),
              (
                small_less (Var i) (Var j) (in_var (2 ^ 21) i) (in_var (2 ^ 21) j),
                (
                  small_less (Var j) N (in_var (2 ^ 21) j) (in_n (2 ^ 21)),
                  (
                    small_at_most (entry_of 4 i) (entry_of 4 j) (in_entry (2 ^ 21) 4 i refl) (in_entry (2 ^ 21) 4 j refl),
                    (
                      small_at_most (entry_of 4 j) (entry_of 4 i) (in_entry (2 ^ 21) 4 j refl) (in_entry (2 ^ 21) 4 i refl),
                      (
                        tt,
                        tt,
                      ),
                    ),
                  ),
                ),
              ),
            ),
          ),
        ),
      ),
    ))

pub values_plan : IsPlan by_values
values_plan =
    let low : 2 < 7 = omega arith in
    let apart : 3 < 7 = omega arith in
    let high : 4 < 7 = omega arith in
    let two : 2 ≤ 12 = omega arith in
    record {
      ends = (
        i,
        j,
        record {
          before = values_tried;
          last = refl;
          once = refl;
          low = (2, low, refl);
          apart = (3, apart, refl);
          high = (4, high, refl);
        },
      );
      in_order = values_fixed;
      few = two;
      small = values_small;
    }

pub values_ascend : (a : Lists) → All (SearchesAscending a) by_values
values_ascend a = none_ascend a by_values (refl, (refl, (refl, (refl, (refl, (refl, (refl, (refl, (refl, (refl, tt))))))))))
