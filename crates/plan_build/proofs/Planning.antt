-- The parts of a plan, put together.
use Rattle.std.proofs.Common.{◌≡◌, ◌<◌, ◌∙◌, ℕ, List, length, sum_by, refl, sym, subst}
use Rattle.wave_base.specs.declared.types.RowId.{RowId}
use Rattle.row_graph.specs.Predecessors.{ArePredecessors}
use Rattle.wave_levels.specs.Levels.{AreLevels, above}
use Rattle.wave_levels.specs.Chains.{IsLeastChain}
use Rattle.sched_types.specs.declared.sched.RowTask.{RowTask}
use Rattle.sched_types.specs.declared.sched.Task.{Task}
use Rattle.sched_types.specs.Kept.{HasKeptWaits}
use Rattle.sched_types.specs.Fits.{Fits}
use Rattle.super_tasks.specs.Shares.{AreWeights, groups}
use Rattle.wait_sparsify.specs.Depends.{Depends, ArePlaced, AreLevelled, CountsCross}
use Rattle.wait_sparsify.proofs.Ordering.{fits}
use Rattle.plan_build.specs.declared.build.Built.{Built}
use Rattle.plan_build.specs.Plan.{IsPlan, Pairs, CountsPairs}
use Rattle.plan_build.proofs.Along.{has_kept_to, counts_to, fits_to}
use Rattle.plan_build.proofs.Edges.{counts_pairs}
use Rattle.plan_build.proofs.Grouped.{are_placed, are_levelled}

module _ (n : ℕ) (pairs : List (RowId × RowId)) (weights : List ℕ) (workers : ℕ) (graph : List (List RowId)) (levels : List ℕ) (are : ArePredecessors n pairs graph) (is : AreLevels graph levels) (weigh : AreWeights n weights) (some : 0 < workers) (tasks : List (List RowTask)) (grouped : tasks ≡ groups levels weights workers) where
  to : (i j : RowId) → Depends graph i j → Pairs pairs i j
  to i j d = (are.pairs_alone i j).0 d

  back : (i j : RowId) → Pairs pairs i j → Depends graph i j
  back i j d = (are.pairs_alone i j).1 d

  weighed : AreWeights (length levels) weights
  weighed = (weigh.0 ∙ sym are.each_row ∙ sym is.0, weigh.1)

  pub placed : ArePlaced (length graph) tasks
  placed = subst (ArePlaced (length graph)) (sym grouped) (are_placed graph levels weights workers is weighed some)

  pub plan : (built : Built) → built.edges ≡ sum_by length graph → built.levels ≡ above levels → IsLeastChain graph levels built.chain → HasKeptWaits (Depends graph) tasks built.sched.workers → CountsCross (Depends graph) tasks built.cross → IsPlan n pairs weights workers built
  plan built edges count chain kept cross = record {
    graph = graph;
    row_levels = levels;
    predecessors = are;
    are_levels = is;
    edges = subst (CountsPairs pairs) (sym edges) (counts_pairs n pairs graph are);
    levels = count;
    chain = chain;
    waits = has_kept_to (Depends graph) (Pairs pairs) to back (groups levels weights workers) built.sched.workers (subst (λ (ts : List (List RowTask)). HasKeptWaits (Depends graph) ts built.sched.workers) grouped kept);
    cross = counts_to (Depends graph) (Pairs pairs) to back (groups levels weights workers) built.cross (subst (λ (ts : List (List RowTask)). CountsCross (Depends graph) ts built.cross) grouped cross);
  }

  pub plan_fits : (sched : List (List Task)) → (AreLevelled (Depends graph) tasks → Fits (length graph) (Depends graph) sched) → Fits n (Pairs pairs) sched
  plan_fits sched fit =
      let l = subst (AreLevelled (Depends graph)) (sym grouped) (are_levelled graph levels weights workers is weighed some) in
      let f = subst (λ (rows : ℕ). Fits rows (Depends graph) sched) are.each_row (fit l) in
      fits_to (Depends graph) (Pairs pairs) to back tasks n sched f

-- what is known of a plan without a call
module _ (n : ℕ) (pairs : List (RowId × RowId)) (weights : List ℕ) (workers : ℕ) (built : Built) (weigh : AreWeights n weights) (some : 0 < workers) (is : IsPlan n pairs weights workers built) where
  from_pairs : (i j : RowId) → Pairs pairs i j → Depends is.graph i j
  from_pairs i j d = (is.predecessors.pairs_alone i j).1 d

  to_pairs : (i j : RowId) → Depends is.graph i j → Pairs pairs i j
  to_pairs i j d = (is.predecessors.pairs_alone i j).0 d

  pub plan_has_fit : Fits n (Pairs pairs) built.sched.workers
  plan_has_fit =
      let tasks = groups is.row_levels weights workers in
      let kept = has_kept_to (Pairs pairs) (Depends is.graph) from_pairs to_pairs tasks built.sched.workers is.waits in
      plan_fits n pairs weights workers is.graph is.row_levels is.predecessors is.are_levels weigh some tasks refl built.sched.workers (λ levelled. fits is.graph tasks built.sched.workers levelled kept (length is.graph) (placed n pairs weights workers is.graph is.row_levels is.predecessors is.are_levels weigh some tasks refl))
