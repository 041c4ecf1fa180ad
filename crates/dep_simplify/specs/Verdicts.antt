-- The verdicts on the relations of a nest.
use Rattle.std.specs.Prelude.{ℕ, ◌+◌, ◌<◌, ◌≡◌, List, [], length, slice_get, Some}
use Rattle.loop_core.specs.declared.nest.Nest.{Nest}
use Rattle.uf_constraints.specs.declared.system.Relation.{Relation}
use Rattle.uf_constraints.specs.Relations.{relations}
use Rattle.index_props.specs.Places.{IsLeast}
use Rattle.dep_simplify.specs.declared.verdict.Verdict.{Verdict}
use Rattle.dep_simplify.specs.declared.verdict.Verdict.TheVariants.{Dropped, Covered, Kept}
use Rattle.dep_simplify.specs.Systems.{IsDropped, Covers, IsRefuted}

-- Relations stand at places from 0; the number that is said of one is its place and 1 more.

-- the relation at place k, before place n, is kept and covers r
pub record IsCover (nest : Nest) (verdicts : List Verdict) (n : ℕ) (r : Relation) (k : ℕ) : Type 0 where
  pub earlier : k < n
  pub kept : slice_get verdicts k ≡ Some Kept
  pub relation : Relation
  pub there : slice_get (relations nest) k ≡ Some relation
  pub covers : Covers nest relation r

-- the verdict on the relation at place n
abbrev pub IsVerdict : Nest → List Verdict → ℕ → Relation → Verdict → Type 0
IsVerdict nest verdicts n r (Dropped cert) = IsDropped nest r
IsVerdict nest verdicts n r (Covered number) =
    (IsDropped nest r → ⊥) × ((k : ℕ) × (number ≡ k + 1) × IsLeast (IsCover nest verdicts n r) k)
IsVerdict nest verdicts n r Kept = (IsDropped nest r → ⊥) × ((k : ℕ) → IsCover nest verdicts n r k → ⊥)

-- one for each relation, in order
pub record AreVerdicts (nest : Nest) (verdicts : List Verdict) : Type 0 where
  pub long : length verdicts ≡ length (relations nest)
  pub each : (n : ℕ) (r : Relation) (v : Verdict) → slice_get (relations nest) n ≡ Some r → slice_get verdicts n ≡ Some v → IsVerdict nest verdicts n r v

-- a verdict that drops a relation has a certificate
abbrev pub IsCertified : Nest → Relation → Verdict → Type 0
IsCertified nest r (Dropped cert) = IsRefuted nest r cert
IsCertified nest r (Covered number) = Unit {0}
IsCertified nest r Kept = Unit {0}

abbrev pub AreCertified : Nest → List Verdict → Type 0
AreCertified nest verdicts = (n : ℕ) (r : Relation) (v : Verdict) → slice_get (relations nest) n ≡ Some r → slice_get verdicts n ≡ Some v → IsCertified nest r v

-- a verdict with an empty certificate in place of its own
abbrev pub bare : Verdict → Verdict
bare (Dropped cert) = Dropped (record { steps = [] })
bare (Covered number) = Covered number
bare Kept = Kept

-- one of the nest's relations that is kept
abbrev pub IsKept : Nest → List Verdict → Relation → Type 0
IsKept nest verdicts r = (n : ℕ) × (slice_get (relations nest) n ≡ Some r) × (slice_get verdicts n ≡ Some Kept)
