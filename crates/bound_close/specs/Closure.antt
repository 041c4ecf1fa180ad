-- What a closure answers.
use Rattle.std.specs.Prelude.{ℕ, ℤ, negsuc, ◌≡◌, ◌++◌, ◌∷◌, Bool, true, false, List, [], length, Ok}
use Rattle.std.specs.List.{Contains}
use Rattle.loop_core.specs.declared.nest.Atom.{Atom}
use Rattle.uf_constraints.specs.declared.system.Diff.{Diff}
use Rattle.index_props.specs.declared.rule.RuleInst.{RuleInst}
use Rattle.index_props.specs.declared.certificate.Step.{Step}
use Rattle.index_props.specs.Certificate.{outcome}
use Rattle.bound_close.specs.declared.engine.Engine.{Engine}
use Rattle.bound_close.specs.declared.workings.Workings.{Workings}
use Rattle.bound_ways.specs.Exact.{IsExact}
pub use Rattle.bound_ways.specs.Exact.{IsLeast, IsBound}
use Rattle.bound_ways.specs.Log.{Logged}
use Rattle.bound_close.specs.Waits.{IsTending}
use Rattle.bound_close.specs.Workings.{bounds, IsFine, Refuted}

-- what contracts see of a closure: its universe, what it keeps, how long its base is, and whether it is contradictory
pub record Found : Type 0 where
  pub atoms : List Atom
  pub engine : Engine
  pub given : ℕ
  pub refuted : Bool

-- the table has the least bounds, and the steps show them
pub record Closed (u : List Atom) (base : List Diff) (rules : List RuleInst) (w : Workings) : Type 0 where
  pub fine : IsFine u w
  pub exact : IsExact u base rules (bounds w)
  pub logged : Logged u base rules w.steps w.table.edges.items

-- k is the closure of this base and these instances over its universe
pub record IsClosure (k : Found) (base : List Diff) (rules : List RuleInst) : Type 0 where
  pub found : k.refuted ≡ false → Closed k.atoms base rules k.engine.workings
  pub waits : k.refuted ≡ false → IsTending k.atoms rules k.engine
  pub given : k.given ≡ length base
  pub refuted : k.refuted ≡ true → Refuted k.atoms base rules k.engine.workings.steps

-- k is the closure of some base and these instances
abbrev pub IsClosureOf : Found → List RuleInst → Type 0
IsClosureOf k rules = (base : List Diff) × IsClosure k base rules

-- k is j with a constraint at the end of its base
pub record IsAdded (rules : List RuleInst) (j : Found) (d : Diff) (k : Found) : Type 0 where
  pub atoms : k.atoms ≡ j.atoms
  pub closure : (base : List Diff) → IsClosure j base rules → IsClosure k (base ++ d ∷ []) rules

-- k is the closure of an empty base to which these constraints were added in order
pub data IsGrown (rules : List RuleInst) : Found → List Diff → Type 0 where
  none : (k : Found) → IsClosure k [] rules → IsGrown rules k []
  more : (j k : Found) (base : List Diff) (d : Diff) → IsGrown rules j base → IsAdded rules j d k → IsGrown rules k (base ++ d ∷ [])

-- the steps pass the check, and the last one gives the constraint
abbrev pub Shows : List Atom → List Diff → List RuleInst → List Step → Atom → Atom → ℤ → Type 0
Shows u base rules steps a b c = outcome u base rules [] steps ≡ Ok (record { a = a; b = b; c = c })

-- the steps pass the check, and the last one gives `a - a <= -1` for some atom
abbrev pub ShowsContradiction : List Atom → List Diff → List RuleInst → List Step → Type 0
ShowsContradiction u base rules steps = (a : Atom) × Shows u base rules steps a a (negsuc 0)

-- the same constraints, in any order and as often as may be
pub record AreSame (base other : List Diff) : Type 0 where
  pub there : (d : Diff) → Contains base d → Contains other d
  pub back : (d : Diff) → Contains other d → Contains base d
