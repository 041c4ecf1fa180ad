use Rattle.std.proofs.Common.{◌≡◌, ◌+◌, ◌∙◌, ◌++◌, [], List, get_or, drop, map, ap, sym, rules}
use Rattle.std.proofs.lemmas.List.{append_assoc, at_drop_more, get_or_read}
use Rattle.wave_base.specs.declared.types.RowId.{RowId}
use Rattle.sched_types.specs.declared.sched.RowTask.{RowTask}
use Rattle.wait_sparsify.specs.Numbered.{rows_from}
use Rattle.wait_sparsify.proofs.numbered.rows_of_each.Goals as goal

pub loop-worker-preserved : goal.loop-worker-preserved
loop-worker-preserved c =
    let lists = c.args.lists.now in
    let worker = c.loop-worker.worker in
    let rows : List (List RowId) = c.loop-worker.rows in
    let rows_of : RowTask → List RowId = λ t. t.rows in
    let step = at_drop_more rows_from lists worker [] (search rules) in
    let tasks : c.as_slice.result.now ≡ get_or lists worker [] = c.as_slice.ensures ∙ get_or_read lists worker c.index-lists-worker.result (search rules) c.index-lists-worker.is [] in
    ap (λ (xs : List (List RowId)). xs ++ rows_from (drop (worker + 1) lists)) (c.in_ok-rows-2.ensures ∙ ap (λ (ts : List RowTask). rows ++ map rows_of ts) tasks)
    ∙ append_assoc rows (map rows_of (get_or lists worker [])) (rows_from (drop (worker + 1) lists))
    ∙ ap (λ (xs : List (List RowId)). rows ++ xs) (sym step)
    ∙ c.loop-worker.invariant
