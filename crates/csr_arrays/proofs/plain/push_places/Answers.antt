use Rattle.std.proofs.Common.{◌++◌, ◌∷◌, [], ℤ, List, pos, ap, ◌∙◌, rules}
use Rattle.std.specs.Prelude.{FitsSigned}
use Rattle.std.specs.Int.{w64}
use Rattle.std.proofs.lemmas.Int.{to_z-of_z}
use Rattle.csr_arrays.specs.Arrays.{value_at}
use Rattle.csr_arrays.proofs.Scanned.{stored_is, not_stored, mapped_in, mapped_out}
use Rattle.csr_arrays.proofs.plain.push_places.Goals as goal
use Rattle.csr_arrays.proofs.plain.push_places.Goals.{then-count_at-gt0+in_ok-push+in_ok-push-2, else-count_at-gt0}

pub loop-column-preserved : goal.loop-column-preserved
loop-column-preserved c =
    let ts = c.args.entries.now in
    let r = c.args.row in
    let k = c.loop-column.column in
    elim c.if-count_at-gt0.branch [
      | then-count_at-gt0+in_ok-push+in_ok-push-2 w ↦ rw w.m-is (
          let t = stored_is ts r k c.count_at.result c.count_at.ensures w.if-count_at-gt0.true in
          let column : FitsSigned w64 w.from.result = search rules in
          let value : FitsSigned w64 w.sum_at.result = search rules in
          let index = simp to_z-of_z at w.in_ok-push.ensures in
          let val = simp to_z-of_z at w.in_ok-push-2.ensures in (
            index ∙ ap (λ (z : ℤ). c.loop-column.m.index ++ z ∷ []) w.from.ensures ∙ ap (λ (l : List ℤ). l ++ pos k ∷ []) c.loop-column.invariant.0 ∙ mapped_in pos ts r k c.args.m.now.index t,
            val ∙ ap (λ (z : ℤ). c.loop-column.m.val ++ z ∷ []) w.sum_at.ensures ∙ ap (λ (l : List ℤ). l ++ value_at ts r k ∷ []) c.loop-column.invariant.1 ∙ mapped_in (value_at ts r) ts r k c.args.m.now.val t,
            c.loop-column.invariant.2,
            c.loop-column.invariant.3,
          ))
      | else-count_at-gt0 w ↦ rw w.m-is (
          let t = not_stored ts r k c.count_at.result c.count_at.ensures w.if-count_at-gt0.false in (
            c.loop-column.invariant.0 ∙ mapped_out pos ts r k c.args.m.now.index t,
            c.loop-column.invariant.1 ∙ mapped_out (value_at ts r) ts r k c.args.m.now.val t,
            c.loop-column.invariant.2,
            c.loop-column.invariant.3,
          ))
    ]
