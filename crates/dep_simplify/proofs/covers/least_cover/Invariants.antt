use Rattle.std.proofs.Common.{ℕ, ◌<◌, List}
use Rattle.uf_constraints.specs.declared.system.Diff.{Diff}
use Rattle.index_props.specs.declared.rule.RuleInst.{RuleInst}
use Rattle.dep_simplify.specs.Ready.{IsOpen, IsFoundCover}
use Rattle.dep_simplify.proofs.covers.least_cover.Given as goal

-- none before this place is a cover
abbrev pub invariant-loop-k : goal.invariant-loop-k
invariant-loop-k l = (base : List Diff) (rules : List RuleInst) → IsOpen l.closure base rules
    → (j : ℕ) → j < l.k → IsFoundCover l.closure.atoms base rules l.relations l.verdicts j → ⊥
