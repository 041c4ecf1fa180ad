use Rattle.std.proofs.Common.{◌≡◌, ◌∙◌, ◌++◌, List, subst, ap, rules}
use Rattle.std.proofs.lemmas.List.Sorted.{IsNonDecreasingBy-from_sort_by_key, answers_always}
use Rattle.std.proofs.lemmas.Result.{on_ok_weaker}
use Rattle.std.specs.List.Sorted.{IsPermutation, IsStableByKey}
use Rattle.std.specs.Ordering.{nat_cmp}
use Rattle.csr_arrays.specs.Rows.{Cell, IsAscending}
use Rattle.csr_arrays.proofs.Columns.{stored_ascending, stored_sorted}
use Rattle.csr_arrays.proofs.row.put_row.Goals as goal

pub returns-then-is_ascending-clause-places : goal.returns-then-is_ascending-clause-places
returns-then-is_ascending-clause-places c =
    on_ok_weaker c.put_ascending.result (λ e n high. stored_ascending c.args.cells.now n c.args.index.now c.args.val.now c.put_ascending.new.index c.put_ascending.new.val (c.is_ascending.ensures c.if-is_ascending.true) high e) c.put_ascending.ensures.run

pub returns-clause-places : goal.returns-clause-places
returns-clause-places c =
    let cells = c.args.cells.now in
    let sorted : List Cell = c.sort_by_key.new.self.items in
    let copied : c.extend_from_slice.new.self.items ≡ cells = c.in_ok-extend_from_slice.ensures.items ∙ ap (λ (l : List Cell). l ++ cells) c.clear.ensures.items in
    let same : IsPermutation cells sorted = subst (λ (l : List Cell). IsPermutation l sorted) copied c.in_ok-sort_by_key.ensures.permutation in
    let stable : IsStableByKey (λ (e : Cell). e.0) nat_cmp cells sorted = subst (λ (l : List Cell). IsStableByKey (λ (e : Cell). e.0) nat_cmp l sorted) copied (c.sort_by_key.ensures.stable (λ (e : Cell). e.0) (answers_always _ _ _ (λ f a r g h. search rules))) in
    let up : IsAscending sorted = IsNonDecreasingBy-from_sort_by_key (λ (e : Cell). e.0) _ c.in_ok-sort_by_key.ensures.sorted (λ a r q k. search rules) in
    on_ok_weaker c.put_ascending-2.result (λ e n high. stored_sorted cells sorted n c.args.index.now c.args.val.now c.put_ascending-2.new.index c.put_ascending-2.new.val same stable up high (rw (← c.as_slice.ensures.value) e)) c.put_ascending-2.ensures.run
