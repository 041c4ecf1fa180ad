-- The steps from which a closure's answers follow.
use Rattle.std.specs.Prelude.{ℕ, negsuc, ◌<◌, ◌≡◌, ◌++◌, ◌∷◌, true, List, [], length, slice_get, Some}
use Rattle.loop_core.specs.declared.nest.Atom.{Atom}
use Rattle.uf_constraints.specs.declared.system.Diff.{Diff}
use Rattle.index_props.specs.declared.rule.RuleInst.{RuleInst}
use Rattle.index_props.specs.declared.certificate.Step.{Step}
use Rattle.index_props.specs.Certificate.{conclusion, named}
use Rattle.bound_table.specs.declared.edge.Edge.{Edge}
use Rattle.bound_table.specs.Marks.{edge_at, edge_a, edge_b, edge_c}
use Rattle.bound_ways.specs.Places.{diff_at}

-- the steps give these constraints, one each
pub data IsLog (u : List Atom) (base : List Diff) (rules : List RuleInst) : List Step → List Diff → Type 0 where
  empty : IsLog u base rules [] []
  more : (steps : List Step) (ds : List Diff) (s : Step) (d : Diff) → IsLog u base rules steps ds → conclusion u base rules ds s ≡ Some d → IsLog u base rules (steps ++ s ∷ []) (ds ++ d ∷ [])

abbrev pub edge_diff : List Atom → List Edge → ℕ → Diff
edge_diff u edges e = diff_at u (edge_a edges e) (edge_b edges e) (edge_c edges e)

-- each edge is given by its step
abbrev pub EdgesIn : List Atom → List Diff → List Edge → Type 0
EdgesIn u ds edges = (e : ℕ) → 0 < e → e < length edges → slice_get ds (edge_at edges e).step ≡ Some (edge_diff u edges e)

-- the new steps go on from the old ones, and step k gives the constraint
pub record Emitted (u : List Atom) (edges : List Edge) (old new : List Step) (k : ℕ) (d : Diff) : Type 0 where
  pub each : (base : List Diff) (rules : List RuleInst) (ds : List Diff) → IsLog u base rules old ds → EdgesIn u ds edges → (rest : List Diff) × IsLog u base rules new (ds ++ rest) × (slice_get (ds ++ rest) k ≡ Some d)

-- the new steps go on from the old ones, and the steps at the places give the premises in order
pub record Naming (u : List Atom) (edges : List Edge) (old new : List Step) (premises : List Diff) (places : List ℕ) : Type 0 where
  pub each : (base : List Diff) (rules : List RuleInst) (ds : List Diff) → IsLog u base rules old ds → EdgesIn u ds edges → (rest : List Diff) × IsLog u base rules new (ds ++ rest) × (named (ds ++ rest) premises places ≡ true)

-- the steps give constraints, among them those of the edges
abbrev pub Logged : List Atom → List Diff → List RuleInst → List Step → List Edge → Type 0
Logged u base rules steps edges = (ds : List Diff) × IsLog u base rules steps ds × EdgesIn u ds edges

-- the last step gives `a - a <= -1`
abbrev pub Refutes : List Atom → List Diff → List RuleInst → List Step → Type 0
Refutes u base rules steps = (a : Atom) × (ds : List Diff) × IsLog u base rules steps (ds ++ record { a = a; b = a; c = negsuc 0 } ∷ [])

-- where the step of an edge gives it, the new steps show a contradiction
abbrev pub Refuting : List Atom → List Edge → List Step → List Step → Edge → Type 0
Refuting u edges old new edge = (base : List Diff) (rules : List RuleInst) (ds : List Diff) → IsLog u base rules old ds → EdgesIn u ds edges → slice_get ds edge.step ≡ Some (diff_at u edge.a edge.b edge.c) → Refutes u base rules new
