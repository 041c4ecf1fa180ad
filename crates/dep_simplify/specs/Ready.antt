-- What the verdicts so far are, and what is owed for the next.
use Rattle.std.specs.Prelude.{ℕ, ◌+◌, ◌<◌, ◌≤◌, ◌≡◌, ◌^◌, List, length, slice_get, Some}
use Rattle.std.specs.List.{All, Contains}
use Rattle.loop_core.specs.declared.decl.PropDecl.{PropDecl}
use Rattle.loop_core.specs.declared.nest.Nest.{Nest}
use Rattle.loop_core.specs.declared.nest.Atom.{Atom}
use Rattle.loop_core.specs.IsNest.{IsNest}
use Rattle.uf_constraints.specs.declared.system.Diff.{Diff}
use Rattle.uf_constraints.specs.declared.system.Relation.{Relation}
use Rattle.uf_constraints.specs.Constants.{DiffsWithin}
use Rattle.uf_constraints.specs.Relations.{relations}
use Rattle.index_props.specs.declared.rule.RuleInst.{RuleInst}
use Rattle.index_props.specs.Derivable.{Derivable, IsContradictory}
use Rattle.index_props.specs.Places.{IsLeast}
use Rattle.bound_close.specs.Closure.{Found, IsClosure, ShowsContradiction}
use Rattle.rule_laws.specs.Small.{IsSmall}
use Rattle.props_once.specs.Repeats.{without_repeats}
use Rattle.dep_simplify.specs.declared.verdict.Verdict.{Verdict}
use Rattle.dep_simplify.specs.declared.verdict.Verdict.TheVariants.{Dropped, Covered, Kept}
use Rattle.dep_simplify.specs.Systems.{atoms_of}
use Rattle.dep_simplify.specs.Verdicts.{IsVerdict, IsCertified}

-- the system of a relation can be closed
pub record IsFit (nest : Nest) (r : Relation) : Type 0 where
  pub few : length (atoms_of nest r) ≤ 96
  pub within : DiffsWithin (2 ^ 21) r.base
  pub sides : All IsSmall r.base

-- the properties of a nest without repeats, and its relations, whose systems can be closed
pub record IsReady (nest : Nest) (props : List PropDecl) (all : List Relation) : Type 0 where
  pub is_nest : IsNest nest
  pub once : props ≡ without_repeats nest.props
  pub listed : all ≡ relations nest
  pub fit : All (IsFit nest) (relations nest)

-- the closure of a system that doesn't contradict itself
pub record IsOpen (k : Found) (base : List Diff) (rules : List RuleInst) : Type 0 where
  pub closure : IsClosure k base rules
  pub consistent : IsContradictory k.atoms base rules → ⊥

-- each constraint follows
abbrev pub AllFollow : List Atom → List Diff → List RuleInst → List Diff → Type 0
AllFollow u base rules ds = All (λ d. Derivable u base rules d.a d.b d.c) ds

-- the relation at a place is kept, and each of its base constraints follows
pub record IsFoundCover (u : List Atom) (base : List Diff) (rules : List RuleInst) (all : List Relation) (verdicts : List Verdict) (k : ℕ) : Type 0 where
  pub kept : slice_get verdicts k ≡ Some Kept
  pub relation : Relation
  pub there : slice_get all k ≡ Some relation
  pub follow : AllFollow u base rules relation.base

-- the verdict on the relation after those that have one
pub record IsNext (nest : Nest) (verdicts : List Verdict) (v : Verdict) : Type 0 where
  pub verdict : (r : Relation) → slice_get (relations nest) (length verdicts) ≡ Some r → IsVerdict nest verdicts (length verdicts) r v
  pub certified : (r : Relation) → slice_get (relations nest) (length verdicts) ≡ Some r → IsCertified nest r v

-- the verdict on a relation with the base of the one at place k, on which this is the verdict
abbrev pub again_of : Verdict → ℕ → Verdict
again_of (Dropped cert) k = Dropped cert
again_of (Covered number) k = Covered number
again_of Kept k = Covered (k + 1)

-- the relation at place k, before the one at this place, has the same base
pub record IsTwin (all : List Relation) (at k : ℕ) : Type 0 where
  pub earlier : k < at
  pub relation : Relation
  pub there : slice_get all k ≡ Some relation
  pub other : Relation
  pub here : slice_get all at ≡ Some other
  pub same : relation.base ≡ other.base

-- the verdict on a base by its system and by the relations so far
abbrev pub IsJudged : List Atom → List Diff → List RuleInst → List Relation → List Verdict → Verdict → Type 0
IsJudged u base rules all verdicts (Dropped cert) = IsContradictory u base rules × ShowsContradiction u base rules cert.steps
IsJudged u base rules all verdicts (Covered number) =
    (IsContradictory u base rules → ⊥) × ((k : ℕ) × (number ≡ k + 1) × IsLeast (IsFoundCover u base rules all verdicts) k)
IsJudged u base rules all verdicts Kept =
    (IsContradictory u base rules → ⊥) × ((k : ℕ) → IsFoundCover u base rules all verdicts k → ⊥)

-- the verdicts so far are right
pub record AreSoFar (nest : Nest) (verdicts : List Verdict) : Type 0 where
  pub each : (n : ℕ) (r : Relation) (v : Verdict) → slice_get (relations nest) n ≡ Some r → slice_get verdicts n ≡ Some v → IsVerdict nest verdicts n r v
  pub certified : (n : ℕ) (r : Relation) (v : Verdict) → slice_get (relations nest) n ≡ Some r → slice_get verdicts n ≡ Some v → IsCertified nest r v
