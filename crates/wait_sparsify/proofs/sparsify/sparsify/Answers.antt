use Rattle.std.proofs.Common.{◌≡◌, ◌∙◌, ℕ, List, length, replicate, ap, sym, subst}
use Rattle.wait_sparsify.specs.Depends.{Depends, CountsCross}
use Rattle.wait_sparsify.specs.Numbered.{owners_from, places_from}
use Rattle.wait_sparsify.specs.Survivors.{nexts, kept_lists}
use Rattle.wait_sparsify.proofs.Numbering.{length-owners, length-places}
use Rattle.wait_sparsify.proofs.Bounds.{cross_within, swept_long, swept_at, kept_inside, has_waits}
use Rattle.wait_sparsify.proofs.Counting.{counts_cross}
use Rattle.wait_sparsify.proofs.Ordering.{fits}
use Rattle.wait_sparsify.proofs.Transport.{setting}
use Rattle.wait_sparsify.proofs.sparsify.sparsify.Goals as goal

pub kept_of_each-requires-clause-owners : goal.kept_of_each-requires-clause-owners
kept_of_each-requires-clause-owners c =
    let s = setting c.args.preds.now c.args.tasks.workers c.as_slice-lists.result.now c.in_ok-cross.cross c.as_slice-lists.ensures c.requires c.in_ok-cross.ensures.graph c.in_ok-cross.ensures.cross in
    ap (λ (o : List ℕ). length o) (c.as_slice-2.ensures.value ∙ c.in_ok-seats.ensures.owners ∙ ap (owners_from 0) c.as_slice-lists.ensures) ∙ length-owners 0 c.args.tasks.workers ∙ sym s.made.each_row

pub kept_of_each-requires-clause-within : goal.kept_of_each-requires-clause-within
kept_of_each-requires-clause-within c =
    cross_within c.args.preds.now c.args.tasks.workers c.in_ok-cross.cross
    (setting c.args.preds.now c.args.tasks.workers c.as_slice-lists.result.now c.in_ok-cross.cross c.as_slice-lists.ensures c.requires c.in_ok-cross.ensures.graph c.in_ok-cross.ensures.cross)

pub attach-requires-clause-owners : goal.attach-requires-clause-owners
attach-requires-clause-owners c =
    let graph = c.args.preds.now in
    let lists = c.args.tasks.workers in
    let cross = c.in_ok-cross.cross in
    let seats = c.in_ok-seats.seats in
    let s = setting graph lists c.as_slice-lists.result.now cross c.as_slice-lists.ensures c.requires c.in_ok-cross.ensures.graph c.in_ok-cross.ensures.cross in
    let eo : seats.owners.items ≡ owners_from 0 lists = c.in_ok-seats.ensures.owners ∙ ap (owners_from 0) c.as_slice-lists.ensures in
    let ek : c.in_ok-kept.kept ≡ kept_lists (nexts cross) seats.owners.items 0 (replicate (length cross) 0) (replicate (length cross) 0) cross = c.in_ok-kept.ensures ∙ ap (λ (o : List ℕ). kept_lists (nexts cross) o 0 (replicate (length cross) 0) (replicate (length cross) 0) cross) c.as_slice-2.ensures.value in
    let kept = c.in_ok-kept.kept in
    kept_inside graph lists cross s kept (swept_long graph lists cross s seats.owners.items kept eo ek) (swept_at graph lists cross s seats.owners.items kept eo ek) seats.owners.items eo

pub attach-requires-clause-places : goal.attach-requires-clause-places
attach-requires-clause-places c =
    ap (λ (o : List ℕ). length o) c.in_ok-seats.ensures.places ∙ length-places c.as_slice-lists.result.now ∙ sym (length-owners 0 c.as_slice-lists.result.now) ∙ ap (λ (o : List ℕ). length o) (sym c.in_ok-seats.ensures.owners)

pub returns : goal.returns
returns c =
    let graph = c.args.preds.now in
    let lists = c.args.tasks.workers in
    let cross = c.in_ok-cross.cross in
    let seats = c.in_ok-seats.seats in
    let s = setting graph lists c.as_slice-lists.result.now cross c.as_slice-lists.ensures c.requires c.in_ok-cross.ensures.graph c.in_ok-cross.ensures.cross in
    let eo : seats.owners.items ≡ owners_from 0 lists = c.in_ok-seats.ensures.owners ∙ ap (owners_from 0) c.as_slice-lists.ensures in
    let ep : seats.places.items ≡ places_from lists = c.in_ok-seats.ensures.places ∙ ap places_from c.as_slice-lists.ensures in
    let ek : c.in_ok-kept.kept ≡ kept_lists (nexts cross) seats.owners.items 0 (replicate (length cross) 0) (replicate (length cross) 0) cross = c.in_ok-kept.ensures ∙ ap (λ (o : List ℕ). kept_lists (nexts cross) o 0 (replicate (length cross) 0) (replicate (length cross) 0) cross) c.as_slice-2.ensures.value in
    let lasting = c.in_ok-kept.kept in
    let kept = has_waits graph lists cross s lasting (swept_long graph lists cross s seats.owners.items lasting eo ek) (swept_at graph lists cross s seats.owners.items lasting eo ek) seats.owners.items seats.places.items c.as_slice-lists.result.now c.in_ok-workers.workers eo ep c.as_slice-lists.ensures c.in_ok-workers.ensures in
    record {
      kept = kept;
      cross = subst (CountsCross (Depends graph) lists) (sym c.total.ensures) (counts_cross graph lists cross s);
      fits = λ levelled. fits graph lists c.in_ok-workers.workers levelled kept (length graph) c.requires;
    }
