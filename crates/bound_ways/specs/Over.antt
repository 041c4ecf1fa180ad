-- Constraints over the atoms of a list, with small constants.
use Rattle.std.specs.Prelude.{◌≤◌, ◌^◌, List, unsigned_abs}
use Rattle.std.specs.List.{Contains}
use Rattle.loop_core.specs.declared.nest.Atom.{Atom}
use Rattle.uf_constraints.specs.declared.system.Diff.{Diff}
use Rattle.index_props.specs.declared.rule.RuleInst.{RuleInst}

-- both atoms are listed, and the right side is from -2^23 to 2^23
pub record IsOver (u : List Atom) (d : Diff) : Type 0 where
  pub left : Contains u d.a
  pub right : Contains u d.b
  pub small : unsigned_abs d.c ≤ 2 ^ 23

abbrev pub AreOver : List Atom → List Diff → Type 0
AreOver u ds = (d : Diff) → Contains ds d → IsOver u d

pub record IsRuleOver (u : List Atom) (r : RuleInst) : Type 0 where
  pub premises : AreOver u r.premises
  pub results : AreOver u r.results

abbrev pub AreRulesOver : List Atom → List RuleInst → Type 0
AreRulesOver u rules = (r : RuleInst) → Contains rules r → IsRuleOver u r
