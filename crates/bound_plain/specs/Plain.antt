-- Plain saturation: tables made again from the instances that have fired.
use Rattle.std.specs.Prelude.{ℕ, ℤ, ◌≤ℤ◌, ◌≡◌, ◌<◌, ◌⊎◌, Bool, true, false, cond, List, length, slice_get, slice_index_or, Some}
use Rattle.std.specs.Int.Signed.{◌<ℤ◌}
use Rattle.std.specs.List.{Contains, sum_by}
use Rattle.loop_core.specs.declared.nest.Atom.{Atom}
use Rattle.uf_constraints.specs.declared.system.Diff.{Diff}
use Rattle.index_props.specs.declared.rule.RuleInst.{RuleInst}
use Rattle.index_props.specs.Derivable.{Derivable, IsContradictory}
use Rattle.bound_ways.specs.Exact.{bound_of, Holds, Fails, IsLower, IsSound, IsExact}
use Rattle.bound_ways.specs.Places.{place_in}
use Rattle.bound_table.specs.Rows.{far, entry, IsTable}

-- bounds between the atoms of a list, closed under sums
pub record IsGrid (u : List Atom) (rows : List (List ℤ)) : Type 0 where
  pub long : length rows ≡ length u
  pub table : IsTable rows

-- each constraint of a set is derivable
abbrev pub AllDerivable : List Atom → List Diff → List RuleInst → (Diff → Type 0) → Type 0
AllDerivable u base rules D = (d : Diff) → D d → Derivable u base rules d.a d.b d.c

-- a set of constraints was taken in: each holds, no bound is higher, and what is known is derivable where they are
pub record TakenIn (u : List Atom) (D : Diff → Type 0) (old new : List (List ℤ)) : Type 0 where
  pub grid : IsGrid u new
  pub lower : IsLower (length u) (entry old) (entry new)
  pub holds : (d : Diff) → D d → bound_of u (entry new) d ≤ℤ d.c
  pub sound : (base : List Diff) (rules : List RuleInst) → AllDerivable u base rules D → IsSound u base rules (entry old) → IsSound u base rules (entry new)

-- a set of constraints contradicts what is known
abbrev pub Opposed : List Atom → (Diff → Type 0) → List (List ℤ) → Type 0
Opposed u D old = (base : List Diff) (rules : List RuleInst) → AllDerivable u base rules D → IsSound u base rules (entry old) → IsContradictory u base rules

abbrev pub IsFired : List Bool → ℕ → Type 0
IsFired fired k = slice_index_or fired k false ≡ true

-- a result of one of the first n instances, which has fired
pub record IsResult (rules : List RuleInst) (fired : List Bool) (n : ℕ) (d : Diff) : Type 0 where
  pub at : ℕ
  pub below : at < n
  pub fires : IsFired fired at
  pub rule : RuleInst
  pub is : slice_get rules at ≡ Some rule
  pub among : Contains rule.results d

abbrev pub ResultsDerivable : List Atom → List Diff → List RuleInst → List Bool → Type 0
ResultsDerivable u base rules fired = AllDerivable u base rules (IsResult rules fired (length rules))

-- the table of a base and of the results of the instances that have fired
pub record IsMade (u : List Atom) (base : List Diff) (rules : List RuleInst) (fired : List Bool) (rows : List (List ℤ)) : Type 0 where
  pub grid : IsGrid u rows
  pub given : Holds u (entry rows) base
  pub results : (d : Diff) → IsResult rules fired (length rules) d → bound_of u (entry rows) d ≤ℤ d.c
  pub sound : ResultsDerivable u base rules fired → IsSound u base rules (entry rows)

-- a base and the results of the instances that have fired contradict one another
abbrev pub IsOpposed : List Atom → List Diff → List RuleInst → List Bool → Type 0
IsOpposed u base rules fired = ResultsDerivable u base rules fired → IsContradictory u base rules

-- how many instances have not fired
abbrev pub unfired : List Bool → ℕ
unfired fired = sum_by (λ f. cond f 0 1) fired

-- a premise of the instance fails
abbrev pub IsHeldBack : List Atom → List RuleInst → List (List ℤ) → ℕ → Type 0
IsHeldBack u rules rows k = (r : RuleInst) → slice_get rules k ≡ Some r → Fails u (entry rows) r.premises

-- the instances with numbers in a set were looked at, and those whose premises hold have fired; whether one is new
pub record Visited (u : List Atom) (rules : List RuleInst) (rows : List (List ℤ)) (Q : ℕ → Type 0) (before now : List Bool) (new : Bool) : Type 0 where
  pub long : length now ≡ length before
  pub follow : (base : List Diff) → IsSound u base rules (entry rows) → ResultsDerivable u base rules before → ResultsDerivable u base rules now
  pub fewer : new ≡ true → unfired now < unfired before
  pub same : new ≡ false → now ≡ before
  pub settled : new ≡ false → (k : ℕ) → Q k → IsFired before k ⊎ IsHeldBack u rules rows k

-- what contracts see of a plain closure: its atoms, its bounds, and whether it is contradictory
pub record Saturated : Type 0 where
  pub atoms : List Atom
  pub rows : List (List ℤ)
  pub refuted : Bool

-- k is the plain closure of this base and these instances over its atoms
pub record IsSaturation (k : Saturated) (base : List Diff) (rules : List RuleInst) : Type 0 where
  pub found : k.refuted ≡ false → IsExact k.atoms base rules (entry k.rows)
  pub refuted : k.refuted ≡ true → IsContradictory k.atoms base rules

-- the bound that a table knows between two atoms
pub record IsKnown (u : List Atom) (T : ℕ → ℕ → ℤ) (a b : Atom) (c : ℤ) : Type 0 where
  pub left : place_in u a < length u
  pub right : place_in u b < length u
  pub bound : c ≡ T (place_in u a) (place_in u b)
  pub known : c <ℤ far

abbrev pub IsUnknown : List Atom → (ℕ → ℕ → ℤ) → Atom → Atom → Type 0
IsUnknown u T a b = place_in u a < length u → place_in u b < length u → T (place_in u a) (place_in u b) <ℤ far → ⊥
