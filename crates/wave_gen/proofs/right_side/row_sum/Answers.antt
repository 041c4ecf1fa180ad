use Rattle.std.proofs.Common.{◌≡◌, ◌-◌, w64, rules, ap, ◌∙◌, arith, FitsSigned}
use Rattle.std.proofs.lemmas.Int.{to_z-of_z}
use Rattle.wave_gen.specs.RightSide.{natural, term}
use Rattle.wave_gen.proofs.Steps.{sum_more, sum_all}
use Rattle.wave_gen.proofs.right_side.row_sum.Goals as goal

pub loop-at-preserved : goal.loop-at-preserved
loop-at-preserved c =
    let m = c.args.m.now in
    let i = c.args.row in
    let at = c.loop-at.at in
    let first = c.natural-first.result in
    let fits : FitsSigned w64 c.add-sum.result = search rules in
    let term_fits : FitsSigned w64 c.term.result = search rules in
    let sum = simp to_z-of_z at c.add-sum.ensures in
    record {
      sum = to_z-of_z w64 c.add-sum.result fits ∙ sum_more (term m i) first at _ _ _ (omega arith) c.loop-at.invariant.sum c.term.ensures sum;
      within = omega arith;
    }

pub returns : goal.returns
returns c =
    let m = c.args.m.now in
    let i = c.args.row in
    let first_fits : FitsSigned w64 c.get.result = search rules in
    let end_fits : FitsSigned w64 c.get-2.result = search rules in
    let first = simp to_z-of_z at c.natural-first.ensures in
    let end = simp to_z-of_z at c.natural-end.ensures in
    let same : c.loop-at.at - c.natural-first.result ≡ c.natural-end.result - c.natural-first.result = omega (arith, c.loop-at.invariant.within) in
    c.loop-at.invariant.sum ∙ sum_all m i _ _ _ same (first ∙ ap natural c.get.ensures) (end ∙ ap natural c.get-2.ensures)
