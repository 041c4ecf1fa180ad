-- When operations are a plan.
use Rattle.std.specs.Prelude.{◌≡◌, ◌^◌, ◌≤◌, Bool, not, IsTrue, List, [], ◌∷◌, ◌++◌, length, unsigned_abs}
use Rattle.std.specs.List.{All, Contains, flat_map, list_all, list_any}
use Rattle.loop_core.specs.declared.nest.VarId.{VarId}
use Rattle.loop_core.specs.declared.nest.Atom.{Atom}
use Rattle.loop_core.specs.declared.nest.Atom.TheVariants.{Zero, N, Var}
use Rattle.loop_core.specs.Binding.{same_variable}
use Rattle.loop_core.specs.Shape.{term_vars}
use Rattle.uf_constraints.specs.declared.system.Diff.{Diff}
use Rattle.uf_constraints.specs.Universe.{plain}
use Rattle.uf_constraints.specs.Bases.{at_most, less}
use Rattle.uf_constraints.specs.Constants.{atom_within, term_within}
use Rattle.inspector_run.specs.declared.plan.InspOp.{InspOp}
use Rattle.inspector_run.specs.declared.plan.InspOp.TheVariants.{Loop, Let, Find, Locate, Test, Emit}
use Rattle.inspector_run.specs.Ready.{fixes}

-- the variables of an atom
abbrev pub atom_vars : Atom → List VarId
atom_vars a = term_vars (plain a)

-- the variables that an operation uses
abbrev pub uses : InspOp → List VarId
uses (Loop v lo hi) = term_vars lo ++ term_vars hi
uses (Let v t) = term_vars t
uses (Find v f plus t) = term_vars t
uses (Locate v p plus t) = term_vars t
uses (Test d) = atom_vars d.a ++ atom_vars d.b
uses (Emit i j) = i ∷ j ∷ []

abbrev pub is_among : List VarId → VarId → Bool
is_among vars v = list_any (λ w. same_variable w v) vars

-- each variable is fixed once, before it is used
abbrev pub AreFixedInOrder : List VarId → List InspOp → Type 0
AreFixedInOrder earlier [] = Unit {0}
AreFixedInOrder earlier (op ∷ ops) =
    IsTrue (list_all (is_among earlier) (uses op)) × IsTrue (list_all (λ v. not (is_among earlier v)) (fixes op)) × AreFixedInOrder (fixes op ++ earlier) ops

-- the constraint of a test
abbrev pub tested : InspOp → List Diff
tested (Test d) = d ∷ []
tested (Loop v lo hi) = []
tested (Let v t) = []
tested (Find v f plus t) = []
tested (Locate v p plus t) = []
tested (Emit i j) = []

abbrev pub tests : List InspOp → List Diff
tests ops = flat_map tested ops

-- the variables of an `Emit`
abbrev pub emits : InspOp → List (VarId × VarId)
emits (Emit i j) = (i, j) ∷ []
emits (Loop v lo hi) = []
emits (Let v t) = []
emits (Find v f plus t) = []
emits (Locate v p plus t) = []
emits (Test d) = []

-- 0 <= i, i < j and j < n
abbrev pub from_zero : VarId → Diff
from_zero i = at_most (plain Zero) (plain (Var i))

abbrev pub one_below : VarId → VarId → Diff
one_below i j = less (plain (Var i)) (plain (Var j))

abbrev pub below_rows : VarId → Diff
below_rows j = less (plain (Var j)) (plain N)

-- `Emit` of i and j stands last and nowhere else, and these tests before it
pub record EndsWith (ops : List InspOp) (i j : VarId) : Type 0 where
  pub before : List InspOp
  pub last : ops ≡ before ++ Emit i j ∷ []
  pub once : flat_map emits before ≡ []
  pub low : Contains (tests before) (from_zero i)
  pub apart : Contains (tests before) (one_below i j)
  pub high : Contains (tests before) (below_rows j)

-- the constants of tests are as small as those of a relation, and the others are from -2^31 to 2^31
abbrev pub IsSmall : InspOp → Type 0
IsSmall (Loop v lo hi) = IsTrue (term_within (2 ^ 31) lo) × IsTrue (term_within (2 ^ 31) hi)
IsSmall (Let v t) = IsTrue (term_within (2 ^ 31) t)
IsSmall (Find v f plus t) = (unsigned_abs plus ≤ 2 ^ 31) × IsTrue (term_within (2 ^ 31) t)
IsSmall (Locate v p plus t) = (unsigned_abs plus ≤ 2 ^ 31) × IsTrue (term_within (2 ^ 31) t)
IsSmall (Test d) = IsTrue (atom_within (2 ^ 21) d.a) × IsTrue (atom_within (2 ^ 21) d.b) × (unsigned_abs d.c ≤ 2 ^ 23)
IsSmall (Emit i j) = Unit {0}

-- operations that are a plan
pub record IsPlan (ops : List InspOp) : Type 0 where
  pub ends : (i : VarId) × (j : VarId) × EndsWith ops i j
  pub in_order : AreFixedInOrder [] ops
  pub few : length (flat_map fixes ops) ≤ 12
  pub small : All IsSmall ops
