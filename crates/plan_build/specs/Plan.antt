-- What a plan has.
use Rattle.std.specs.Prelude.{◌≡◌, ◌↔◌, ℕ, List, AllPairs, Contains, length}
use Rattle.wave_base.specs.declared.types.RowId.{RowId}
use Rattle.row_graph.specs.Predecessors.{ArePredecessors}
use Rattle.wave_levels.specs.Levels.{AreLevels, above}
use Rattle.wave_levels.specs.Chains.{IsLeastChain}
use Rattle.super_tasks.specs.Shares.{groups}
use Rattle.sched_types.specs.Kept.{HasKeptWaits}
use Rattle.wait_sparsify.specs.Depends.{CountsCross}
use Rattle.plan_build.specs.declared.build.Built.{Built}

-- row j depends on row i
abbrev pub Pairs : List (RowId × RowId) → RowId → RowId → Type 0
Pairs pairs i j = Contains pairs (i, j)

-- the number of dependences: some list has each pair once, and nothing else
pub record CountsPairs (pairs : List (RowId × RowId)) (count : ℕ) : Type 0 where
  pub list : List (RowId × RowId)
  pub distinct : AllPairs (λ (a : RowId × RowId) (b : RowId × RowId). a ≡ b → ⊥) list
  pub same : (i j : RowId) → Contains list (i, j) ↔ Contains pairs (i, j)
  pub long : length list ≡ count

-- the plan has the levels, the chain, the tasks and the waits of the rows with these predecessors and
-- these weights
pub record IsPlan (rows : ℕ) (pairs : List (RowId × RowId)) (weights : List ℕ) (workers : ℕ) (built : Built) : Type 0 where
  pub graph : List (List RowId)
  pub row_levels : List ℕ
  pub predecessors : ArePredecessors rows pairs graph
  pub are_levels : AreLevels graph row_levels
  pub edges : CountsPairs pairs built.edges
  pub levels : built.levels ≡ above row_levels
  pub chain : IsLeastChain graph row_levels built.chain
  pub waits : HasKeptWaits (Pairs pairs) (groups row_levels weights workers) built.sched.workers
  pub cross : CountsCross (Pairs pairs) (groups row_levels weights workers) built.cross
