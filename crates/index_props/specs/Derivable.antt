-- What follows from a base by the rule instances.
use Rattle.std.specs.Prelude.{ℤ, pos, negsuc, ◌+ℤ◌, ◌≤ℤ◌, List}
use Rattle.std.specs.List.{Contains}
use Rattle.loop_core.specs.declared.nest.Atom.{Atom}
use Rattle.uf_constraints.specs.declared.system.Diff.{Diff}
use Rattle.index_props.specs.declared.rule.RuleInst.{RuleInst}

-- the least set of constraints `a - b <= c` that holds the base and each `a - a <= 0` of the universe, and is
-- closed under sums, weakening and the instances whose premises are all in it
pub data Derivable (u : List Atom) (base : List Diff) (rules : List RuleInst) : Atom → Atom → ℤ → Type 0 where
  given : (d : Diff) → Contains base d → Derivable u base rules d.a d.b d.c
  same : (a : Atom) → Contains u a → Derivable u base rules a a (pos 0)
  joined : (a b d : Atom) (c e : ℤ) → Derivable u base rules a b c → Derivable u base rules b d e → Derivable u base rules a d (c +ℤ e)
  weaker : (a b : Atom) (c e : ℤ) → Derivable u base rules a b c → c ≤ℤ e → Derivable u base rules a b e
  fired : (r : RuleInst) (d : Diff) → Contains rules r → ((p : Diff) → Contains r.premises p → Derivable u base rules p.a p.b p.c) → Contains r.results d → Derivable u base rules d.a d.b d.c

-- some atom is below itself
abbrev pub IsContradictory : List Atom → List Diff → List RuleInst → Type 0
IsContradictory u base rules = (a : Atom) × Derivable u base rules a a (negsuc 0)
