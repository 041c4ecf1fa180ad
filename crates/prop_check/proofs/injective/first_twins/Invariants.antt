use Rattle.prop_check.specs.Twins.{FirstTwins}
use Rattle.prop_check.proofs.injective.first_twins.Given as goal

abbrev pub invariant-loop-k : goal.invariant-loop-k
invariant-loop-k l = FirstTwins l.entries l.k l.first
