use Rattle.std.proofs.Common.{◌≡◌, take, slice_get, Some}
use Rattle.index_props.specs.declared.rule.RuleInst.{RuleInst}
use Rattle.bound_close.specs.Passes.{Applied}
use Rattle.bound_close.proofs.workings.Workings.add_results.Given as goal

abbrev pub invariant-loop-at : goal.invariant-loop-at
invariant-loop-at l = (r : RuleInst) → slice_get l.rules l.rule ≡ Some r → Applied l.atoms l.rules r l.places (take l.at l.results) l.initial.self l.self
