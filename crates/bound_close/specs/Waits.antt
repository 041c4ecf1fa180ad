-- Instances that wait, each at a premise that doesn't hold.
use Rattle.std.specs.Prelude.{ℕ, ◌≡◌, ◌<◌, ◌≤◌, ◌⊎◌, List, [], length, take, slice_get, slice_index_or, Some}
use Rattle.std.specs.Int.Signed.{◌<ℤ◌}
use Rattle.std.specs.List.{Contains}
use Rattle.loop_core.specs.declared.nest.Atom.{Atom}
use Rattle.index_props.specs.declared.rule.RuleInst.{RuleInst}
use Rattle.bound_table.specs.declared.waiting.Waiting.{Waiting}
use Rattle.bound_table.specs.Marks.{mark_at}
use Rattle.bound_table.specs.Queues.{queue}
use Rattle.bound_ways.specs.Exact.{Holds}
use Rattle.bound_plain.specs.Plain.{IsFired, unfired}
use Rattle.bound_close.specs.declared.workings.Workings.{Workings}
use Rattle.bound_close.specs.declared.engine.Engine.{Engine}
use Rattle.bound_close.specs.Passes.{Forward, Watches, ResultsHold}
use Rattle.bound_close.specs.Workings.{bounds, IsFine}

abbrev pub marks : Workings → ℕ → ℕ → ℕ
marks w = mark_at w.table.marks.items

-- how many constraints tightened the table, and one more
abbrev pub edges : Engine → ℕ
edges g = length g.workings.table.edges.items

-- the first premises of an instance hold
pub record Holding (u : List Atom) (rules : List RuleInst) (w : Workings) (k n : ℕ) : Type 0 where
  pub within : k < length rules
  pub held : (r : RuleInst) → slice_get rules k ≡ Some r → (n ≤ length r.premises) × Holds u (bounds w) (take n r.premises)

-- the premises of the instance before that one hold, and another is watched
pub record IsWaiting (u : List Atom) (rules : List RuleInst) (w : Workings) (e : Waiting) : Type 0 where
  pub holding : Holding u rules w e.rule e.held
  pub x : e.seen.x < length u
  pub y : e.seen.y < length u
  pub watched : Watches u rules e.rule e.seen

-- a queue for each pair of places of a table of n rows
pub record AreQueues (n : ℕ) (rows : List (List (List Waiting))) : Type 0 where
  pub long : length rows ≡ n
  pub wide : (x : ℕ) → x < n → length (slice_index_or rows x []) ≡ n

-- the table is in order, the results of instances that have fired hold, and those in the queues wait
pub record Tended (u : List Atom) (rules : List RuleInst) (g : Engine) : Type 0 where
  pub fine : IsFine u g.workings
  pub many : length g.fired.items ≡ length rules
  pub queues : AreQueues (length u) g.queues.rows.items
  pub done : (k : ℕ) → IsFired g.fired.items k → ResultsHold u rules g.workings k
  pub waiting : (x y : ℕ) (e : Waiting) → Contains (queue g.queues.rows.items x y) e → IsWaiting u rules g.workings e

-- a pair of places at or after one, row by row
abbrev pub IsLater : ℕ → ℕ → ℕ → ℕ → Type 0
IsLater cx cy x y = (cx < x) ⊎ ((cx ≡ x) × (cy ≤ y))

-- the watched premise fails, or its bound was lowered since: by an edge from t on, or by one from s on where its pair is at or after (cx, cy)
abbrev pub Looks : Workings → ℕ → ℕ → ℕ → ℕ → Waiting → Type 0
Looks w s t cx cy e =
    (e.seen.bound <ℤ bounds w e.seen.x e.seen.y) ⊎ ((t ≤ marks w e.seen.x e.seen.y) ⊎ ((s ≤ marks w e.seen.x e.seen.y) × IsLater cx cy e.seen.x e.seen.y))

-- an instance that stands in the queue of the premise that it watches
pub record Stands (u : List Atom) (g : Engine) (k : ℕ) (e : Waiting) : Type 0 where
  pub rule : e.rule ≡ k
  pub x : e.seen.x < length u
  pub y : e.seen.y < length u
  pub there : Contains (queue g.queues.rows.items e.seen.x e.seen.y) e

-- an instance has fired, or stands where it will be looked at once its premise may hold
abbrev pub Covered : List Atom → Engine → ℕ → ℕ → ℕ → ℕ → ℕ → Type 0
Covered u g s t cx cy k = IsFired g.fired.items k ⊎ ((e : Waiting) × Stands u g k e × Looks g.workings s t cx cy e)

-- each instance has fired, or watches a premise of which the bound wasn't lowered, but by edges from s on, since it was seen to fail
abbrev pub AllCovered : List Atom → List RuleInst → Engine → ℕ → Type 0
AllCovered u rules g s = (t k : ℕ) → k < length rules → Covered u g s t 0 0 k

-- what was kept is kept, and an instance fired wherever an edge was added
pub record Steady (u : List Atom) (rules : List RuleInst) (old new : Engine) : Type 0 where
  pub forward : Forward u rules old.workings new.workings
  pub tended : Tended u rules new
  pub longer : edges old ≤ edges new
  pub fewer : unfired new.fired.items ≤ unfired old.fired.items
  pub same : unfired new.fired.items ≡ unfired old.fired.items → edges new ≡ edges old

-- whatever was covered is covered
pub record Onwards (u : List Atom) (rules : List RuleInst) (old new : Engine) : Type 0 where
  pub steady : Steady u rules old new
  pub covers : (s t cx cy k : ℕ) → t ≤ edges old → Covered u old s t cx cy k → Covered u new s t cx cy k

-- the pairs from (cx, cy) to (dx, dy) were looked at
pub record Looked (u : List Atom) (rules : List RuleInst) (s cx cy dx dy : ℕ) (old new : Engine) : Type 0 where
  pub steady : Steady u rules old new
  pub covers : (t k : ℕ) → t ≤ edges old → Covered u old s t cx cy k → Covered u new s t dx dy k

-- whatever happens next, the instance is covered
abbrev pub IsCovered : List Atom → Engine → ℕ → Type 0
IsCovered u g k = (s t cx cy : ℕ) → Covered u g s t cx cy k

-- no instance has to be looked at before a bound is lowered
pub record IsTending (u : List Atom) (rules : List RuleInst) (g : Engine) : Type 0 where
  pub tended : Tended u rules g
  pub covered : AllCovered u rules g (edges g)
