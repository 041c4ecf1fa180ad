use Rattle.loop_lines.proofs.expr.+expr.Given as goal

abbrev pub decreases-factor : goal.decreases-factor
decreases-factor l = l.fuel

abbrev pub decreases-product : goal.decreases-product
decreases-product l = l.fuel

abbrev pub decreases-factors : goal.decreases-factors
decreases-factors l = l.fuel

abbrev pub decreases-read_sum : goal.decreases-read_sum
decreases-read_sum l = l.fuel

abbrev pub decreases-products : goal.decreases-products
decreases-products l = l.fuel

abbrev pub decreases-both : goal.decreases-both
decreases-both l = l.fuel
