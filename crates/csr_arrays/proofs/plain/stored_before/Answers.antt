use Rattle.std.proofs.Common.{◌∷◌, [], length, sym, ap, ◌∙◌, arith}
use Rattle.std.proofs.lemmas.List.{length-append}
use Rattle.csr_arrays.specs.Arrays.{columns}
use Rattle.csr_arrays.proofs.Scanned.{stored_is, not_stored, column_in, column_out}
use Rattle.csr_arrays.proofs.plain.stored_before.Goals as goal
use Rattle.csr_arrays.proofs.plain.stored_before.Goals.{then-count_at-gt0, else-count_at-gt0}

pub loop-column-preserved : goal.loop-column-preserved
loop-column-preserved c =
    let ts = c.args.entries.now in
    let r = c.args.row in
    let k = c.loop-column.column in
    elim c.if-count_at-gt0.branch [
      | then-count_at-gt0 w ↦ (
        omega (arith, w.stored-is, c.loop-column.invariant.0, ap length (column_in ts r k (stored_is ts r k c.count_at.result c.count_at.ensures w.if-count_at-gt0.true)), length-append (columns k ts r) (k ∷ [])),
        omega (arith, w.stored-is, c.loop-column.invariant.1),
      )
      | else-count_at-gt0 w ↦ (
        w.stored-is ∙ c.loop-column.invariant.0 ∙ ap length (sym (column_out ts r k (not_stored ts r k c.count_at.result c.count_at.ensures w.if-count_at-gt0.false))),
        omega (arith, w.stored-is, c.loop-column.invariant.1),
      )
    ]
