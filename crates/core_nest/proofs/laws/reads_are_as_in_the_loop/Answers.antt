use Rattle.std.proofs.Common.{ℤ, Option, List, sym, ap, ◌∙◌}
use Rattle.loop_core.specs.Instances.{Instance}
use Rattle.loop_core.specs.Sequence.{before, read_by}
use Rattle.core_cells.specs.Cells.{at_cell}
use Rattle.core_rows.specs.Locals.{RowState}
use Rattle.core_nest.specs.Nested.{cell_of, deed_of, nest_work}
use Rattle.core_nest.proofs.Natural.{entry_is, read_finds}
use Rattle.core_nest.proofs.Nests.{fits, deed_there, before_is, place_inside}
use Rattle.core_nest.proofs.laws.reads_are_as_in_the_loop.Goals as goal

pub returns : goal.returns
returns c = λ nest a x workers e fit reached j i k r s p begins l at_k at_r is.
    let y : List (List ℤ) = (before nest a x i k).lists in
    c.reads_are_in_rows.ensures (nest_work nest a x workers) e (fits nest a x workers fit) reached j i k (deed_of nest x s) begins (cell_of p) (deed_there nest a x workers fit i k s l at_k) is
    ∙ (ap (λ (o : RowState). at_cell o.cells (cell_of p)) (before_is nest a x workers fit i k l)
    ∙ (entry_is y p (place_inside nest a x workers fit i k r s p l at_k at_r)
    ∙ (sym (read_finds y s.value r p at_r) ∙ ap (λ (o : Option Instance). read_by y o r) (sym at_k))))
