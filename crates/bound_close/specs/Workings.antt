-- How a table and the steps beside it grow.
use Rattle.std.specs.Prelude.{ℕ, ℤ, ◌≤ℤ◌, ◌≡◌, ◌<◌, ◌≤◌, ◌⊎◌, ◌++◌, List, length, Some}
use Rattle.loop_core.specs.declared.nest.Atom.{Atom}
use Rattle.uf_constraints.specs.declared.system.Diff.{Diff}
use Rattle.index_props.specs.declared.rule.RuleInst.{RuleInst}
use Rattle.index_props.specs.declared.certificate.Step.{Step}
use Rattle.index_props.specs.Derivable.{Derivable, IsContradictory}
use Rattle.index_props.specs.Certificate.{conclusion}
use Rattle.bound_close.specs.declared.workings.Workings.{Workings}
use Rattle.bound_ways.specs.Exact.{IsSound, IsLower, bound_of}
use Rattle.bound_ways.specs.Log.{IsLog, EdgesIn, Logged, Refutes}
use Rattle.bound_table.specs.Marks.{IsTraced, mark_at}
use Rattle.bound_table.specs.Rows.{entry}

abbrev pub bounds : Workings → ℕ → ℕ → ℤ
bounds w = entry w.table.rows.items

-- the table is as long as the list of atoms, and each of its ways can be read off
pub record IsFine (u : List Atom) (w : Workings) : Type 0 where
  pub long : length w.table.rows.items ≡ length u
  pub traced : IsTraced w.table.rows.items w.table.marks.items w.table.edges.items

-- all that is known is derivable, and the steps show it
pub record Kept (u : List Atom) (base : List Diff) (rules : List RuleInst) (w : Workings) : Type 0 where
  pub sound : IsSound u base rules (bounds w)
  pub logged : Logged u base rules w.steps w.table.edges.items

-- the system is contradictory, and the steps show it
pub record Refuted (u : List Atom) (base : List Diff) (rules : List RuleInst) (steps : List Step) : Type 0 where
  pub contradictory : IsContradictory u base rules
  pub shown : Refutes u base rules steps

-- each bound that was lowered is marked by an edge that was added
pub record Moves (m : ℕ) (old new : Workings) : Type 0 where
  pub longer : length old.table.edges.items ≤ length new.table.edges.items
  pub each : (x y : ℕ) → x < m → y < m → ((bounds new x y ≡ bounds old x y) × (mark_at new.table.marks.items x y ≡ mark_at old.table.marks.items x y)) ⊎ (length old.table.edges.items ≤ mark_at new.table.marks.items x y)

-- a constraint that a step gives was taken in
pub record Grown (u : List Atom) (old new : Workings) (d : Diff) (s : Step) : Type 0 where
  pub fine : IsFine u new
  pub lower : IsLower (length u) (bounds old) (bounds new)
  pub moves : Moves (length u) old new
  pub holds : bound_of u (bounds new) d ≤ℤ d.c
  pub sound : (base : List Diff) (rules : List RuleInst) → IsSound u base rules (bounds old) → Derivable u base rules d.a d.b d.c → IsSound u base rules (bounds new)
  pub longer : (base : List Diff) (rules : List RuleInst) (ds : List Diff) → IsLog u base rules old.steps ds → EdgesIn u ds old.table.edges.items → conclusion u base rules ds s ≡ Some d → (rest : List Diff) × IsLog u base rules new.steps (ds ++ rest) × EdgesIn u (ds ++ rest) new.table.edges.items

-- a constraint that a step gives contradicts what is known
abbrev pub Clashes : List Atom → Workings → Workings → Diff → Step → Type 0
Clashes u old new d s = (base : List Diff) (rules : List RuleInst) (ds : List Diff) → IsSound u base rules (bounds old) → Derivable u base rules d.a d.b d.c → IsLog u base rules old.steps ds → EdgesIn u ds old.table.edges.items → conclusion u base rules ds s ≡ Some d → Refuted u base rules new.steps

-- what was kept for a base and instances is kept, and no bound is higher
pub record Onward (u : List Atom) (base : List Diff) (rules : List RuleInst) (old new : Workings) : Type 0 where
  pub lower : IsLower (length u) (bounds old) (bounds new)
  pub kept : Kept u base rules old → Kept u base rules new

-- the base and the instances are contradictory
abbrev pub Halted : List Atom → List Diff → List RuleInst → Workings → Workings → Type 0
Halted u base rules old new = Kept u base rules old → Refuted u base rules new.steps
