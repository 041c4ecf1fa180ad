use Rattle.std.proofs.Common.{List, take}
use Rattle.uf_constraints.specs.declared.system.Diff.{Diff}
use Rattle.index_props.specs.declared.rule.RuleInst.{RuleInst}
use Rattle.dep_simplify.specs.Ready.{IsOpen, AllFollow}
use Rattle.dep_simplify.proofs.covers.all_follow.Given as goal

-- those so far follow
abbrev pub invariant-loop-diff : goal.invariant-loop-diff
invariant-loop-diff l = (base : List Diff) (rules : List RuleInst) → IsOpen l.closure base rules → AllFollow l.closure.atoms base rules (take l.diff-index l.diffs)
