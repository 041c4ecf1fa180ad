use Rattle.std.proofs.Common.{◌≡◌, ◌<◌, ◌∙◌, ℕ, List, All, length, replicate, ap, sym, subst}
use Rattle.wave_base.specs.declared.types.RowId.{RowId}
use Rattle.row_graph.specs.Predecessors.{ArePredecessors}
use Rattle.wait_sparsify.specs.Crossing.{crossing_lists}
use Rattle.wait_sparsify.specs.Numbered.{owners_from, rows_from}
use Rattle.wait_sparsify.specs.Written.{written_lists}
use Rattle.wait_sparsify.proofs.Numbering.{length-owners}
use Rattle.wait_sparsify.proofs.Bounds.{rows_within, tasks_within, pairs_first, pairs_second, all_pairs}
use Rattle.wait_sparsify.proofs.sparsify.cross_of_each.Goals as goal

pub task_of_each-requires-clause-within : goal.task_of_each-requires-clause-within
task_of_each-requires-clause-within c =
    let w = rows_within c.args.preds.now c.args.lists.now c.rows-n.ensures.graph c.requires.placed in
    let w' = subst (λ (n : ℕ). All (λ (list : List RowId). All (λ (r : RowId). r.0 < n) list) (rows_from c.args.lists.now)) (sym c.rows-n.ensures.rows) w in
    subst (λ (rs : List (List RowId)). All (λ (list : List RowId). All (λ (r : RowId). r.0 < c.rows-n.result) list) rs) (sym c.in_ok-rows.ensures) w'

pub crossing_pairs-requires-clause-within : goal.crossing_pairs-requires-clause-within
crossing_pairs-requires-clause-within c =
    subst (λ (rs : List (List RowId)). All (λ (list : List RowId). All (λ (r : RowId). r.0 < length c.args.preds.now) list) rs) (sym c.in_ok-rows.ensures)
    (rows_within c.args.preds.now c.args.lists.now c.rows-n.ensures.graph c.requires.placed)

pub crossing_pairs-requires-clause-owners : goal.crossing_pairs-requires-clause-owners
crossing_pairs-requires-clause-owners c =
    ap (λ (o : List ℕ). length o) c.requires.owners ∙ length-owners 0 c.args.lists.now ∙ ap (λ (rs : List (List RowId)). length rs) (sym c.in_ok-rows.ensures)

pub crossing_pairs-requires-clause-below : goal.crossing_pairs-requires-clause-below
crossing_pairs-requires-clause-below c =
    let graph = c.args.preds.now in
    let lists = c.args.lists.now in
    let t : written_lists 0 c.in_ok-rows.rows (replicate c.rows-n.result 0) ≡ written_lists 0 (rows_from lists) (replicate (length graph) 0) = λ x. written_lists 0 (c.in_ok-rows.ensures x) (replicate (c.rows-n.ensures.rows x) 0) in
    let e : c.as_slice.result.now ≡ written_lists 0 (rows_from lists) (replicate (length graph) 0) = c.as_slice.ensures.value ∙ c.in_ok-tasks.ensures.tasks ∙ t in
    let w = tasks_within graph lists c.rows-n.ensures.graph c.requires.placed in
    let w' = subst (λ (ts : List ℕ). All (λ (t : ℕ). t < length (rows_from lists)) ts) (sym e) w in
    subst (λ (rs : List (List RowId)). All (λ (t : ℕ). t < length rs) c.as_slice.result.now) (sym c.in_ok-rows.ensures) w'

pub firsts_of_each-requires-clause-firsts : goal.firsts_of_each-requires-clause-firsts
firsts_of_each-requires-clause-firsts c =
    let graph = c.args.preds.now in
    let lists = c.args.lists.now in
    let top : length (rows_from lists) ≡ c.in_ok-many.many = ap (λ (rs : List (List RowId)). length rs) (sym c.in_ok-rows.ensures) ∙ sym c.len.ensures.len ∙ sym c.in_ok-many.ensures.same in
    let e = all_pairs graph lists c.args.owners.now c.as_slice.result.now c.rows-n.result c.in_ok-rows.rows c.in_ok-pairs.pairs.items c.requires.owners (c.as_slice.ensures.value ∙ c.in_ok-tasks.ensures.tasks) c.rows-n.ensures.rows c.in_ok-rows.ensures c.in_ok-pairs.ensures in
    let w = pairs_first graph lists c.rows-n.ensures.graph c.requires.placed in
    subst (λ (n : ℕ). All (λ (p : RowId × RowId). p.0.0 < n) c.in_ok-pairs.pairs.items) top (subst (λ (ps : List (RowId × RowId)). All (λ (p : RowId × RowId). p.0.0 < length (rows_from lists)) ps) (sym e) w)

pub firsts_of_each-requires-clause-seconds : goal.firsts_of_each-requires-clause-seconds
firsts_of_each-requires-clause-seconds c =
    let graph = c.args.preds.now in
    let lists = c.args.lists.now in
    let top : length (rows_from lists) ≡ c.in_ok-many.many = ap (λ (rs : List (List RowId)). length rs) (sym c.in_ok-rows.ensures) ∙ sym c.len.ensures.len ∙ sym c.in_ok-many.ensures.same in
    let e = all_pairs graph lists c.args.owners.now c.as_slice.result.now c.rows-n.result c.in_ok-rows.rows c.in_ok-pairs.pairs.items c.requires.owners (c.as_slice.ensures.value ∙ c.in_ok-tasks.ensures.tasks) c.rows-n.ensures.rows c.in_ok-rows.ensures c.in_ok-pairs.ensures in
    let w = pairs_second graph lists c.rows-n.ensures.graph c.requires.placed in
    subst (λ (n : ℕ). All (λ (p : RowId × RowId). p.1.0 < n) c.in_ok-pairs.pairs.items) top (subst (λ (ps : List (RowId × RowId)). All (λ (p : RowId × RowId). p.1.0 < length (rows_from lists)) ps) (sym e) w)

pub returns-clause-cross : goal.returns-clause-cross
returns-clause-cross c =
    let graph = c.args.preds.now in
    let lists = c.args.lists.now in
    let top : c.in_ok-many.many ≡ length (rows_from lists) = c.in_ok-many.ensures.same ∙ c.len.ensures.len ∙ ap (λ (rs : List (List RowId)). length rs) c.in_ok-rows.ensures in
    let e = all_pairs graph lists c.args.owners.now c.as_slice.result.now c.rows-n.result c.in_ok-rows.rows c.in_ok-pairs.pairs.items c.requires.owners (c.as_slice.ensures.value ∙ c.in_ok-tasks.ensures.tasks) c.rows-n.ensures.rows c.in_ok-rows.ensures c.in_ok-pairs.ensures in
    subst (λ (n : ℕ). ArePredecessors n (crossing_lists graph (owners_from 0 lists) (written_lists 0 (rows_from lists) (replicate (length graph) 0)) 0 (rows_from lists)) c.in_ok-cross.cross) top (subst (λ (ps : List (RowId × RowId)). ArePredecessors c.in_ok-many.many ps c.in_ok-cross.cross) e c.in_ok-cross.ensures)
