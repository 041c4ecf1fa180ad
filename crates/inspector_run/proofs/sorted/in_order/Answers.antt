use Rattle.std.proofs.Common.{rules}
use Rattle.std.specs.List.Sorted.{IsSortedByKey, IsStableByKey}
use Rattle.std.specs.Ordering.{int_cmp}
use Rattle.std.proofs.lemmas.List.Sorted.{answers_always}
use Rattle.inspector_run.specs.declared.sorted.Held.{Held}
use Rattle.inspector_run.proofs.Sorting.{sorted_places}
use Rattle.inspector_run.proofs.Ascend.{ascending_from}
use Rattle.inspector_run.proofs.sorted.in_order.Goals as goal

pub returns : goal.returns
returns c =
    let list = c.args.values.items in
    let before = c.in_ok-entries.entries.items in
    let after = c.sort_by_key.new.self.items in
    let sorted : IsSortedByKey (λ (e : Held). e.value) int_cmp after = c.in_ok-sort_by_key.ensures.sorted (λ (e : Held). e.value) (answers_always _ _ _ (λ f a r g h. search rules)) in
    let stable : IsStableByKey (λ (e : Held). e.value) int_cmp before after = c.in_ok-sort_by_key.ensures.stable (λ (e : Held). e.value) (answers_always _ _ _ (λ f a r g h. search rules)) in
    record { ascending = ascending_from after sorted; equal = sorted_places list before after c.in_ok-entries.ensures stable }
