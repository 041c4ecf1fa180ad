use Rattle.std.proofs.Common.{pos, refl, sym, ◌∙◌, arith, rules}
use Rattle.std.specs.Prelude.{FitsSigned, slice_index_or}
use Rattle.std.specs.Int.{w64}
use Rattle.std.proofs.lemmas.Int.{to_z-of_z}
use Rattle.csr_arrays.specs.Rows.{Cell}
use Rattle.csr_arrays.proofs.Columns.{run_next}
use Rattle.csr_arrays.proofs.row.put_ascending.Goals as goal

pub loop-column-preserved : goal.loop-column-preserved
loop-column-preserved c =
    let i = c.loop-column.column-index in
    let cells = c.args.cells.now in
    let e : Cell = slice_index_or cells i (0, pos 0) in
    let range : FitsSigned w64 e.1 = search rules in
    let val = simp to_z-of_z at c.in_ok-put.ensures.val in
    let step = run_next cells i e c.loop-column.index c.loop-column.val c.put.new.index c.put.new.val c.loop-column.last c.is_last.result (omega arith) refl c.is_last.ensures c.in_ok-put.ensures.index val in
    (sym step ∙ c.loop-column.invariant.0, omega (arith, c.in_ok-put.ensures.few, c.loop-column.invariant.1), omega (arith, c.in_ok-put.ensures.grows, c.loop-column.invariant.2))
