use Rattle.std.proofs.Common.{◌≡◌, ◌<◌, ◌∙◌, ℕ, List, All, length, ap, sym, subst}
use Rattle.wave_base.specs.declared.types.RowId.{RowId}
use Rattle.wait_sparsify.specs.Depends.{Depends, CountsCross}
use Rattle.wait_sparsify.specs.Numbered.{owners_from, places_from, rows_from}
use Rattle.wait_sparsify.proofs.Numbering.{length-owners, length-places}
use Rattle.wait_sparsify.proofs.Bounds.{rows_within, kept_inside, has_waits}
use Rattle.wait_sparsify.proofs.Counting.{counts_cross}
use Rattle.wait_sparsify.proofs.Ordering.{fits}
use Rattle.wait_sparsify.proofs.Plainly.{searched_setting, needed_lists, needed_at}
use Rattle.wait_sparsify.proofs.plain.sparsify_by_search.Goals as goal

pub cross_by_search-requires-clause-within : goal.cross_by_search-requires-clause-within
cross_by_search-requires-clause-within c =
    let e : c.in_ok-rows.rows ≡ rows_from c.args.tasks.workers = c.in_ok-rows.ensures ∙ ap rows_from c.as_slice-lists.ensures in
    subst (λ (rs : List (List RowId)). All (λ (list : List RowId). All (λ (r : RowId). r.0 < length c.args.preds.now) list) rs) (sym e)
    (rows_within c.args.preds.now c.args.tasks.workers c.rows-rows.ensures.graph c.requires)

pub cross_by_search-requires-clause-owners : goal.cross_by_search-requires-clause-owners
cross_by_search-requires-clause-owners c =
    ap (λ (o : List ℕ). length o) (c.as_slice.ensures.value ∙ c.in_ok-seats.ensures.owners) ∙ length-owners 0 c.as_slice-lists.result.now ∙ ap (λ (rs : List (List RowId)). length rs) (sym c.in_ok-rows.ensures)

pub kept_by_search-requires-clause-owners : goal.kept_by_search-requires-clause-owners
kept_by_search-requires-clause-owners c =
    ap (λ (o : List ℕ). length o) (c.as_slice-2.ensures.value ∙ c.in_ok-seats.ensures.owners) ∙ length-owners 0 c.as_slice-lists.result.now ∙ ap (λ (rs : List (List RowId)). length rs) (sym c.in_ok-rows.ensures) ∙ sym c.len.ensures.len ∙ sym c.in_ok-many.ensures.same ∙ sym c.in_ok-cross.ensures.0

pub attach-requires-clause-owners : goal.attach-requires-clause-owners
attach-requires-clause-owners c =
    let graph = c.args.preds.now in
    let lists = c.args.tasks.workers in
    let cross = c.in_ok-cross.cross in
    let seats = c.in_ok-seats.seats in
    let many : c.in_ok-many.many ≡ length c.in_ok-rows.rows = c.in_ok-many.ensures.same ∙ c.len.ensures.len in
    let s = searched_setting graph lists c.as_slice-lists.result.now c.as_slice.result.now c.in_ok-rows.rows c.in_ok-many.many cross c.as_slice-lists.ensures (c.as_slice.ensures.value ∙ c.in_ok-seats.ensures.owners) c.in_ok-rows.ensures many c.rows-rows.ensures.graph c.requires c.in_ok-cross.ensures in
    let eo : seats.owners.items ≡ owners_from 0 lists = c.in_ok-seats.ensures.owners ∙ ap (owners_from 0) c.as_slice-lists.ensures in
    let kept = c.in_ok-kept.kept in
    let found = needed_lists cross c.as_slice-2.result.now (owners_from 0 lists) c.in_ok-many.many kept (c.as_slice-2.ensures.value ∙ eo) (sym c.in_ok-cross.ensures.0) c.in_ok-kept.ensures in
    kept_inside graph lists cross s kept found.0 (needed_at graph lists cross s kept found) seats.owners.items eo

pub attach-requires-clause-places : goal.attach-requires-clause-places
attach-requires-clause-places c =
    ap (λ (o : List ℕ). length o) c.in_ok-seats.ensures.places ∙ length-places c.as_slice-lists.result.now ∙ sym (length-owners 0 c.as_slice-lists.result.now) ∙ ap (λ (o : List ℕ). length o) (sym c.in_ok-seats.ensures.owners)

pub returns : goal.returns
returns c =
    let graph = c.args.preds.now in
    let lists = c.args.tasks.workers in
    let cross = c.in_ok-cross.cross in
    let seats = c.in_ok-seats.seats in
    let many : c.in_ok-many.many ≡ length c.in_ok-rows.rows = c.in_ok-many.ensures.same ∙ c.len.ensures.len in
    let s = searched_setting graph lists c.as_slice-lists.result.now c.as_slice.result.now c.in_ok-rows.rows c.in_ok-many.many cross c.as_slice-lists.ensures (c.as_slice.ensures.value ∙ c.in_ok-seats.ensures.owners) c.in_ok-rows.ensures many c.rows-rows.ensures.graph c.requires c.in_ok-cross.ensures in
    let eo : seats.owners.items ≡ owners_from 0 lists = c.in_ok-seats.ensures.owners ∙ ap (owners_from 0) c.as_slice-lists.ensures in
    let ep : seats.places.items ≡ places_from lists = c.in_ok-seats.ensures.places ∙ ap places_from c.as_slice-lists.ensures in
    let lasting = c.in_ok-kept.kept in
    let found = needed_lists cross c.as_slice-2.result.now (owners_from 0 lists) c.in_ok-many.many lasting (c.as_slice-2.ensures.value ∙ eo) (sym c.in_ok-cross.ensures.0) c.in_ok-kept.ensures in
    let kept = has_waits graph lists cross s lasting found.0 (needed_at graph lists cross s lasting found) seats.owners.items seats.places.items c.as_slice-lists.result.now c.in_ok-workers.workers eo ep c.as_slice-lists.ensures c.in_ok-workers.ensures in
    record {
      kept = kept;
      cross = subst (CountsCross (Depends graph) lists) (sym c.total.ensures) (counts_cross graph lists cross s);
      fits = λ levelled. fits graph lists c.in_ok-workers.workers levelled kept (length graph) c.requires;
    }
