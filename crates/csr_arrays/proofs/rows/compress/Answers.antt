use Rattle.std.proofs.Common.{◌≡◌, ◌-◌, ◌+◌, get_or, length, map, refl, ap, ◌∙◌, arith}
use Rattle.std.proofs.lemmas.List.{get_or_read, length-append}
use Rattle.csr_arrays.specs.Axes.{turned}
use Rattle.csr_arrays.specs.Rows.{in_row, by_rows}
use Rattle.csr_arrays.proofs.Turning.{Inside-turned, by_rows_all, rows_from, rows_next, row_next, row_cut}
use Rattle.csr_arrays.proofs.rows.compress.Goals as goal

pub loop-row-init : goal.loop-row-init
loop-row-init c =
    let us = map (turned c.args.axis) c.args.entries.now in
    let n = c.args.n in
    let whole : n - 0 ≡ n = omega arith in
    let rest : c.as_slice-rest.result.now ≡ by_rows us n = c.as_slice-rest.ensures.value ∙ c.in_ok-buckets.ensures.cells in
    record {
      rows = c.in_ok-m.ensures.rows n us;
      left = rest ∙ rw whole refl;
      start = refl;
      few = omega (arith, ap length c.in_ok-m.ensures.none, ap length rest, by_rows_all c.args.axis c.args.entries.now n c.requires.inside);
    }

pub overflow_sub-end : goal.overflow_sub-end
overflow_sub-end c =
    let us = map (turned c.args.axis) c.args.entries.now in
    let r = c.loop-row.row in
    let ends = c.in_ok-buckets.buckets.ends.items in
    let read : c.index-end.result.now ≡ get_or ends r 0 = get_or_read ends r c.index-end.result.now (omega (arith, c.in_ok-buckets.ensures.len)) c.index-end.ensures 0 in
    let next = row_next us r c.loop-row.start c.index-end.result.now c.loop-row.invariant.start (read ∙ c.in_ok-buckets.ensures.ends r (omega arith)) in
    omega (arith, next)

pub split_at-requires : goal.split_at-requires
split_at-requires c =
    let us = map (turned c.args.axis) c.args.entries.now in
    let n = c.args.n in
    let r = c.loop-row.row in
    let ends = c.in_ok-buckets.buckets.ends.items in
    let read : c.index-end.result.now ≡ get_or ends r 0 = get_or_read ends r c.index-end.result.now (omega (arith, c.in_ok-buckets.ensures.len)) c.index-end.ensures 0 in
    let next = row_next us r c.loop-row.start c.index-end.result.now c.loop-row.invariant.start (read ∙ c.in_ok-buckets.ensures.ends r (omega arith)) in
    let rest = c.loop-row.invariant.left ∙ rows_next us n r (omega arith) in
    omega (arith, next, ap length rest, length-append (in_row us r) (rows_from us n (r + 1)))

pub loop-row-preserved : goal.loop-row-preserved
loop-row-preserved c =
    let us = map (turned c.args.axis) c.args.entries.now in
    let n = c.args.n in
    let r = c.loop-row.row in
    let ends = c.in_ok-buckets.buckets.ends.items in
    let end = c.index-end.result.now in
    let read : end ≡ get_or ends r 0 = get_or_read ends r end (omega (arith, c.in_ok-buckets.ensures.len)) c.index-end.ensures 0 in
    let here : end ≡ length (by_rows us (r + 1)) = read ∙ c.in_ok-buckets.ensures.ends r (omega arith) in
    let next = row_next us r c.loop-row.start end c.loop-row.invariant.start here in
    let cut = row_cut us n r (end - c.loop-row.start) c.loop-row.rest.now c.split_at.result.0.now c.split_at.result.1.now (omega arith) c.loop-row.invariant.left (omega (arith, next)) c.split_at.ensures.front c.split_at.ensures.back in
    let whole = c.loop-row.invariant.left ∙ rows_next us n r (omega arith) in
    let inside = Inside-turned c.args.axis c.args.entries.now n c.requires.inside in
    record {
      rows = c.in_ok-add_row.ensures.rows n us inside cut.0 c.loop-row.invariant.rows;
      left = cut.1;
      start = here;
      few = omega (arith, c.in_ok-add_row.ensures.few, c.loop-row.invariant.few, ap length cut.0, ap length cut.1, ap length whole, length-append (in_row us r) (rows_from us n (r + 1)));
    }
