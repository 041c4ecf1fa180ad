-- What follows in the system of a relation.
use Rattle.std.proofs.Common.{ℕ, ℤ, ◌≡◌, ◌≤◌, ◌^◌, refl, sym, ◌∙◌, subst, ap, List, [], slice_get, Some}
use Rattle.std.specs.List.{All, Contains}
use Rattle.std.proofs.lemmas.List.Elements.{All-contains, All-weaker, All-contains_itself}
use Rattle.loop_core.specs.declared.nest.Nest.{Nest}
use Rattle.loop_core.specs.declared.nest.Atom.{Atom}
use Rattle.uf_constraints.specs.declared.system.Diff.{Diff}
use Rattle.uf_constraints.specs.declared.system.Relation.{Relation}
use Rattle.uf_constraints.specs.Over as written
use Rattle.uf_constraints.proofs.Listed.{due_over, due_closed}
use Rattle.index_props.specs.declared.rule.RuleInst.{RuleInst}
use Rattle.index_props.specs.Derivable.{Derivable}
use Rattle.index_props.specs.Derivable.Derivable.{given, same, joined, weaker, fired}
use Rattle.bound_ways.specs.Over.{IsOver, AreOver, IsRuleOver, AreRulesOver}
use Rattle.rule_laws.specs.Small.{IsSmall}
use Rattle.dep_simplify.specs.Ready.{AllFollow}
use Rattle.dep_simplify.specs.Systems.{atoms_of, rules_of, IsShown, Covers}

-- the base over the atoms, with small right sides
pub base_over : (u : List Atom) (base : List Diff) → written.AllOver u base → All IsSmall base → AreOver u base
base_over u base over small d h =
    let o = All-contains (written.IsOver u) base d over h in
    record { left = o.0; right = o.1; small = All-contains IsSmall base d small h }

-- what is derivable is between the atoms
module _ (u : List Atom) (base : List Diff) (rules : List RuleInst) (over : written.AllOver u base) (fit : AreRulesOver u rules) where
  pub derivable_over : (a b : Atom) (c : ℤ) → Derivable u base rules a b c → Contains u a × Contains u b
  derivable_over x y c (given d h) = All-contains (written.IsOver u) base d over h
  derivable_over x y c (same a h) = (h, h)
  derivable_over x y c (joined p q r k l g h) = ((derivable_over p q k g).0, (derivable_over q r l h).1)
  derivable_over x y c (weaker p q k l g h) = derivable_over p q k g
  derivable_over x y c (fired r d inn ps h) = let o = (fit r inn).results d h in (o.left, o.right)
