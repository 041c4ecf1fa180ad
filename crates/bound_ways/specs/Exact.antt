-- What a table of bounds between places says of constraints between atoms.
use Rattle.std.specs.Prelude.{ℕ, ℤ, ◌≤ℤ◌, ◌<◌, ◌⊎◌, List, length, Option, MatchOption}
use Rattle.std.specs.Int.Signed.{◌<ℤ◌}
use Rattle.std.specs.List.{Contains}
use Rattle.loop_core.specs.declared.nest.Atom.{Atom}
use Rattle.uf_constraints.specs.declared.system.Diff.{Diff}
use Rattle.index_props.specs.declared.rule.RuleInst.{RuleInst}
use Rattle.index_props.specs.Derivable.{Derivable, IsContradictory}
use Rattle.bound_ways.specs.Places.{place_in, atom_at}
use Rattle.bound_table.specs.Rows.{far}

-- the bound between the atoms of a constraint
abbrev pub bound_of : List Atom → (ℕ → ℕ → ℤ) → Diff → ℤ
bound_of u T d = T (place_in u d.a) (place_in u d.b)

-- each constraint of a list holds in the table
abbrev pub Holds : List Atom → (ℕ → ℕ → ℤ) → List Diff → Type 0
Holds u T ds = (d : Diff) → Contains ds d → bound_of u T d ≤ℤ d.c

abbrev pub Fails : List Atom → (ℕ → ℕ → ℤ) → List Diff → Type 0
Fails u T ds = (d : Diff) × Contains ds d × (d.c <ℤ bound_of u T d)

abbrev pub IsLower : ℕ → (ℕ → ℕ → ℤ) → (ℕ → ℕ → ℤ) → Type 0
IsLower m T U = (x y : ℕ) → x < m → y < m → U x y ≤ℤ T x y

-- each known bound is derivable
abbrev pub IsSound : List Atom → List Diff → List RuleInst → (ℕ → ℕ → ℤ) → Type 0
IsSound u base rules T = (x y : ℕ) → x < length u → y < length u → T x y <ℤ far → Derivable u base rules (atom_at u x) (atom_at u y) (T x y)

-- the bounds are the least derivable ones, and none is known where none is derivable
pub record IsExact (u : List Atom) (base : List Diff) (rules : List RuleInst) (T : ℕ → ℕ → ℤ) : Type 0 where
  pub sound : IsSound u base rules T
  pub least : (a b : Atom) (c : ℤ) → Derivable u base rules a b c → (place_in u a < length u) × (place_in u b < length u) × (T (place_in u a) (place_in u b) <ℤ far) × (T (place_in u a) (place_in u b) ≤ℤ c)
  pub consistent : IsContradictory u base rules → ⊥

-- an instance of which a premise fails or all results hold
abbrev pub Settled : List Atom → (ℕ → ℕ → ℤ) → RuleInst → Type 0
Settled u T r = Fails u T r.premises ⊎ Holds u T r.results

-- the least bound that is derivable
pub record IsLeast (u : List Atom) (base : List Diff) (rules : List RuleInst) (a b : Atom) (c : ℤ) : Type 0 where
  pub derivable : Derivable u base rules a b c
  pub least : (e : ℤ) → Derivable u base rules a b e → c ≤ℤ e

-- the least bound, and none exactly where none is derivable
abbrev pub IsBound : List Atom → List Diff → List RuleInst → Atom → Atom → Option ℤ → Type 0
IsBound u base rules a b answer = MatchOption answer ((c : ℤ) → Derivable u base rules a b c → ⊥) (IsLeast u base rules a b)
