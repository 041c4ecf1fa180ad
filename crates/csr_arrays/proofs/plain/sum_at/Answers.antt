use Rattle.std.proofs.Common.{ℤ, sym, ap, refl, ◌∙◌, arith, rules}
use Rattle.std.specs.Prelude.{FitsSigned, slice_index_or, if◌then◌else◌}
use Rattle.std.specs.Int.{w64}
use Rattle.std.proofs.lemmas.Int.{to_z-of_z}
use Rattle.wave_base.specs.Word.{wrapped_sum}
use Rattle.csr_arrays.specs.Axes.{Triple, nothing}
use Rattle.csr_arrays.proofs.Scanned.{value_next}
use Rattle.csr_arrays.proofs.plain.sum_at.Goals as goal

pub loop-entry-preserved : goal.loop-entry-preserved
loop-entry-preserved c =
    let ts = c.args.entries.now in
    let i = c.loop-entry.entry-index in
    let x : Triple = slice_index_or ts i nothing in
    let there = c.is_at.result in
    let range : FitsSigned w64 x.2 = search rules in
    let fits : FitsSigned w64 c.plus_where-sum.result = search rules in
    let sum = simp to_z-of_z at c.plus_where-sum.ensures in
    to_z-of_z w64 c.plus_where-sum.result fits ∙ sum ∙ ap (λ (v : ℤ). if there then wrapped_sum v x.2 else v) c.loop-entry.invariant
    ∙ sym (value_next ts i c.args.row c.args.column there x (omega arith) refl c.is_at.ensures)
