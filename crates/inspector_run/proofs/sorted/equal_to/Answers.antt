use Rattle.std.proofs.Common.{rules, ◌≤◌, ap, ◌∙◌, sym, map, int_lt, int_le}
use Rattle.std.proofs.lemmas.List.Sorted.{IsPartitionPoint-from_clause}
use Rattle.inspector_run.specs.declared.sorted.Held.{Held}
use Rattle.inspector_run.specs.Inverses.{place_of}
use Rattle.inspector_run.proofs.Ascend.{parted_below, parted_up_to, first_before, run_is}
use Rattle.inspector_run.proofs.sorted.equal_to.Goals as goal

pub slice_bounds-result-count : goal.slice_bounds-result-count
slice_bounds-result-count c =
    let es = c.args.entries.now in
    let v = c.args.value in
    let low = IsPartitionPoint-from_clause (λ (e : Held). int_lt e.value v) es c.partition_point-first.result c.partition_point-first.ensures.partitioned (parted_below es v c.requires) (λ a r q k. search rules) in
    let high = IsPartitionPoint-from_clause (λ (e : Held). int_le e.value v) es c.partition_point-after.result c.partition_point-after.ensures.partitioned (parted_up_to es v c.requires) (λ a r q k. search rules) in
    first_before es v c.partition_point-first.result c.partition_point-after.result c.partition_point-first.ensures.bound low high

pub slice_bounds-result-start : goal.slice_bounds-result-start
slice_bounds-result-start c =
    let le : c.partition_point-first.result ≤ c.partition_point-after.result = slice_bounds-result-count c in
    search rules

pub returns : goal.returns
returns c =
    let es = c.args.entries.now in
    let v = c.args.value in
    let low = IsPartitionPoint-from_clause (λ (e : Held). int_lt e.value v) es c.partition_point-first.result c.partition_point-first.ensures.partitioned (parted_below es v c.requires) (λ a r q k. search rules) in
    let high = IsPartitionPoint-from_clause (λ (e : Held). int_le e.value v) es c.partition_point-after.result c.partition_point-after.ensures.partitioned (parted_up_to es v c.requires) (λ a r q k. search rules) in
    let before : c.partition_point-first.result ≤ c.partition_point-after.result = first_before es v c.partition_point-first.result c.partition_point-after.result c.partition_point-first.ensures.bound low high in
    λ list right. ap (map place_of) (sym (run_is es v c.partition_point-first.result c.partition_point-after.result before c.partition_point-after.ensures.bound low high)) ∙ right.equal v
