use Rattle.std.proofs.Common.{ℕ, ◌≤◌, ◌<◌, ◌↔◌, sym, subst}
use Rattle.loop_core.specs.Lists.{list_of}
use Rattle.prop_check.specs.declared.rule.Rule.{Rule}
use Rattle.prop_check.specs.declared.rule.Rule.TheVariants.{Sorted}
use Rattle.prop_check.specs.Segments.{IsBad, IsBadIn}
use Rattle.prop_check.proofs.Spans.{below, upto, sorted}
use Rattle.prop_check.proofs.segment.span.Goals as goal

pub returns-in-Sorted-clause-bad : goal.returns-in-Sorted-clause-bad
returns-in-Sorted-clause-bad g c =
    let fs = list_of c.args.arrays.now.lists c.args.by.f in
    let ps = list_of c.args.arrays.now.lists c.args.by.p in
    let w = c.whole-from.result in
    subst (λ (r : Rule). (k : ℕ) → IsBadIn r fs ps c.args.i k ↔ ((w.from ≤ k) × (k < c.before-in-Sorted.result) × IsBad r fs c.args.i k)) (sym c.in-Sorted.is)
    (subst (λ (t : ℕ). (k : ℕ) → IsBadIn Sorted fs ps c.args.i k ↔ ((w.from ≤ k) × (k < t) × IsBad Sorted fs c.args.i k)) (sym c.before-in-Sorted.ensures)
    (sorted fs ps c.args.i w.from w.to c.whole-from.ensures.places))

pub returns-in-Below-clause-bad : goal.returns-in-Below-clause-bad
returns-in-Below-clause-bad g c =
    let fs = list_of c.args.arrays.now.lists c.args.by.f in
    let ps = list_of c.args.arrays.now.lists c.args.by.p in
    let w = c.whole-from.result in
    subst (λ (r : Rule). (k : ℕ) → IsBadIn r fs ps c.args.i k ↔ ((w.from ≤ k) × (k < w.to) × IsBad r fs c.args.i k)) (sym c.in-Below.is)
    (below fs ps c.args.i w.from w.to c.whole-from.ensures.places)

pub returns-in-Upto-clause-bad : goal.returns-in-Upto-clause-bad
returns-in-Upto-clause-bad g c =
    let fs = list_of c.args.arrays.now.lists c.args.by.f in
    let ps = list_of c.args.arrays.now.lists c.args.by.p in
    let w = c.whole-from.result in
    subst (λ (r : Rule). (k : ℕ) → IsBadIn r fs ps c.args.i k ↔ ((w.from ≤ k) × (k < w.to) × IsBad r fs c.args.i k)) (sym c.in-Upto.is)
    (upto fs ps c.args.i w.from w.to c.whole-from.ensures.places)
