use Rattle.std.proofs.Common.{IsTrue, ◌≤◌, subst, sym, refl, arith}
use Rattle.loop_core.specs.Depth.{depth, body_depth}
use Rattle.loop_core.proofs.Depths.{depth_within, body_depth_within}
use Rattle.loop_core.proofs.depth.+depth.Goals as goal

pub has_depth_within-returns-then-not-is_within : goal.has_depth_within-returns-then-not-is_within
has_depth_within-returns-then-not-is_within t c =
    let items = c.args.items.now in
    let here : depth c.item-item.result ≤ body_depth items =
    subst (λ i. depth i ≤ body_depth items) (sym c.item-item.is) (depth_within items c.loop-item.item-index c.item-item.result c.loop-item-test.true) in (
      λ e. cc,
      λ shallow. let within : IsTrue c.is_within.result = c.is_within.ensures.1 (omega arith) in cc,
    )

pub has_depth_within-returns : goal.has_depth_within-returns
has_depth_within-returns t c = (
  λ e. body_depth_within c.args.items.now c.args.limit (λ k d lt. c.loop-item.invariant k d (omega arith)),
  λ shallow. refl,
)
