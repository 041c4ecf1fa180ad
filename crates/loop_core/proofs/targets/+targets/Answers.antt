use Rattle.std.proofs.Common.{◌≡◌, ◌||◌, ◌+◌, true, false, drop, get_or, sym, ap, ◌∙◌}
use Rattle.std.specs.List.{list_any}
use Rattle.loop_core.specs.Shape.{item_targets, body_targets, same_array}
use Rattle.loop_core.proofs.Written.{any_from, any_past}
use Rattle.loop_core.proofs.targets.+targets.Goals as goal

pub is_written-loop-item-preserved : goal.is_written-loop-item-preserved
is_written-loop-item-preserved t c =
    let items = c.args.items.now in
    let k = c.loop-item.item-index in
    let d = c.item-item.result in
    let p = same_array c.args.array in
    let rest = list_any p (body_targets (drop (k + 1) items)) in
    let here : list_any p (item_targets (get_or items k d)) ≡ false =
    ap (λ i. list_any p (item_targets i)) (sym c.item-item.is) ∙ sym c.is_written_by.ensures ∙ c.if-is_written_by.false in
    sym (any_from p items k d c.loop-item-test.true ∙ ap (λ b. b || rest) here) ∙ c.loop-item.invariant

pub is_written-returns : goal.is_written-returns
is_written-returns t c =
    sym (sym c.loop-item.invariant ∙ any_past (same_array c.args.array) c.args.items.now c.loop-item.item-index c.loop-item-test.false)

pub is_written-returns-then-is_written_by : goal.is_written-returns-then-is_written_by
is_written-returns-then-is_written_by t c =
    let items = c.args.items.now in
    let k = c.loop-item.item-index in
    let d = c.item-item.result in
    let p = same_array c.args.array in
    let rest = list_any p (body_targets (drop (k + 1) items)) in
    let here : list_any p (item_targets (get_or items k d)) ≡ true =
    ap (λ i. list_any p (item_targets i)) (sym c.item-item.is) ∙ sym c.is_written_by.ensures ∙ c.if-is_written_by.true in
    sym (sym c.loop-item.invariant ∙ any_from p items k d c.loop-item-test.true ∙ ap (λ b. b || rest) here)
