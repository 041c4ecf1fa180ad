-- How a table and its steps take in the results of an instance.
use Rattle.std.specs.Prelude.{ℕ, ℤ, true, ◌≡◌, List, length, slice_get, slice_index_or, Some}
use Rattle.std.specs.Int.Signed.{◌<ℤ◌}
use Rattle.std.specs.List.{Contains}
use Rattle.loop_core.specs.declared.nest.Atom.{Atom}
use Rattle.uf_constraints.specs.declared.system.Diff.{Diff}
use Rattle.index_props.specs.declared.rule.RuleInst.{RuleInst}
use Rattle.index_props.specs.Derivable.{Derivable}
use Rattle.index_props.specs.Certificate.{named}
use Rattle.bound_table.specs.declared.between.Between.{Between}
use Rattle.bound_close.specs.declared.workings.Workings.{Workings}
use Rattle.bound_ways.specs.Exact.{Holds, Fails, IsLower, IsSound, Settled}
use Rattle.bound_ways.specs.Log.{IsLog, EdgesIn}
use Rattle.bound_ways.specs.Places.{place_in}
use Rattle.bound_close.specs.Workings.{bounds, IsFine, Moves, Onward, Halted}

-- the premises of an instance are derivable, and the steps at the places give them
pub record Ready (u : List Atom) (base : List Diff) (rules : List RuleInst) (w : Workings) (r : RuleInst) (places : List ℕ) : Type 0 where
  pub sound : IsSound u base rules (bounds w)
  pub premises : (p : Diff) → Contains r.premises p → Derivable u base rules p.a p.b p.c
  pub ds : List Diff
  pub log : IsLog u base rules w.steps ds
  pub edges : EdgesIn u ds w.table.edges.items
  pub named : named ds r.premises places ≡ true

-- these results of an instance were taken in
pub record Applied (u : List Atom) (rules : List RuleInst) (r : RuleInst) (places : List ℕ) (ds : List Diff) (old new : Workings) : Type 0 where
  pub fine : IsFine u new
  pub lower : IsLower (length u) (bounds old) (bounds new)
  pub holds : Holds u (bounds new) ds
  pub moves : Moves (length u) old new
  pub ready : (base : List Diff) → Ready u base rules old r places → Ready u base rules new r places

-- what was kept for the instances and any base is kept, and no bound is higher
pub record Forward (u : List Atom) (rules : List RuleInst) (old new : Workings) : Type 0 where
  pub fine : IsFine u new
  pub moves : Moves (length u) old new
  pub onward : (base : List Diff) → Onward u base rules old new

abbrev pub Stopped : List Atom → List RuleInst → Workings → Workings → Type 0
Stopped u rules old new = (base : List Diff) → Halted u base rules old new

-- the places and the right side of the constraint at a place of a list
pub record IsWatched (u : List Atom) (ds : List Diff) (i : ℕ) (p : Between) : Type 0 where
  pub watched : Diff
  pub at : watched ≡ slice_index_or ds i watched
  pub x : p.x ≡ place_in u watched.a
  pub y : p.y ≡ place_in u watched.b
  pub bound : p.bound ≡ watched.c

-- where the bound between two places is above a right side, a premise of the instance fails
pub record Watches (u : List Atom) (rules : List RuleInst) (k : ℕ) (p : Between) : Type 0 where
  pub fails : (T : ℕ → ℕ → ℤ) → p.bound <ℤ T p.x p.y → (r : RuleInst) → slice_get rules k ≡ Some r → Fails u T r.premises

abbrev pub ResultsHold : List Atom → List RuleInst → Workings → ℕ → Type 0
ResultsHold u rules w k = (r : RuleInst) → slice_get rules k ≡ Some r → Holds u (bounds w) r.results

abbrev pub PremiseFails : List Atom → List RuleInst → Workings → ℕ → Type 0
PremiseFails u rules w k = (r : RuleInst) → slice_get rules k ≡ Some r → Fails u (bounds w) r.premises

abbrev pub AllSettled : List Atom → List RuleInst → Workings → Type 0
AllSettled u rules w = (r : RuleInst) → Contains rules r → Settled u (bounds w) r
