-- The pairs of kept relations.
use Rattle.std.specs.Prelude.{◌≡◌, ◌↔◌, ℕ, ◌<◌, List, Some, slice_get, Contains}
use Rattle.std.specs.List.{All}
use Rattle.wave_base.specs.declared.types.RowId.{RowId}
use Rattle.loop_core.specs.declared.nest.Nest.{Nest}
use Rattle.loop_core.specs.Lists.{Lists}
use Rattle.uf_constraints.specs.declared.system.Relation.{Relation}
use Rattle.uf_constraints.specs.Pairs.{Pairs}
use Rattle.uf_constraints.specs.Relations.{relations}
use Rattle.dep_simplify.specs.declared.verdict.Verdict.{Verdict}
use Rattle.dep_simplify.specs.declared.verdict.Verdict.TheVariants.{Kept}
use Rattle.dep_simplify.specs.Verdicts.{IsKept}

-- the first row of a pair is before the second, and the second is one of n rows
abbrev pub IsEarlier : RowId × RowId → Type 0
IsEarlier p = p.0.0 < p.1.0

abbrev pub IsOfRows : ℕ → RowId × RowId → Type 0
IsOfRows n p = p.1.0 < n

-- these are the pairs of a relation
pub record ArePairsOf (nest : Nest) (a : Lists) (r : Relation) (pairs : List (RowId × RowId)) : Type 0 where
  pub same : (i j : RowId) → Contains pairs (i, j) ↔ Pairs nest.line r a i.0 j.0
  pub earlier : All IsEarlier pairs
  pub rows : All (IsOfRows a.n) pairs

-- one of the kept relations before a place has two rows as a pair
pub record IsPairBefore (nest : Nest) (verdicts : List Verdict) (a : Lists) (place : ℕ) (i j : RowId) : Type 0 where
  pub at : ℕ
  pub before : at < place
  pub relation : Relation
  pub there : slice_get (relations nest) at ≡ Some relation
  pub kept : slice_get verdicts at ≡ Some Kept
  pub pair : Pairs nest.line relation a i.0 j.0

-- these are the pairs of the kept relations before a place
pub record ArePairsBefore (nest : Nest) (verdicts : List Verdict) (a : Lists) (place : ℕ) (pairs : List (RowId × RowId)) : Type 0 where
  pub same : (i j : RowId) → Contains pairs (i, j) ↔ IsPairBefore nest verdicts a place i j
  pub earlier : All IsEarlier pairs
  pub rows : All (IsOfRows a.n) pairs

-- these are the pairs of all kept relations
pub record ArePairsOfKept (nest : Nest) (verdicts : List Verdict) (a : Lists) (pairs : List (RowId × RowId)) : Type 0 where
  pub same : (i j : RowId) → Contains pairs (i, j) ↔ ((r : Relation) × IsKept nest verdicts r × Pairs nest.line r a i.0 j.0)
  pub earlier : All IsEarlier pairs
  pub rows : All (IsOfRows a.n) pairs
