-- A plan is one of its pairs as a set.
use Rattle.std.proofs.Common.{ℕ, List, Contains}
use Rattle.std.specs.Prelude.{◌↔◌}
use Rattle.wave_base.specs.declared.types.RowId.{RowId}
use Rattle.super_tasks.specs.Shares.{groups}
use Rattle.plan_build.specs.declared.build.Built.{Built}
use Rattle.plan_build.specs.Plan.{IsPlan, Pairs}
use Rattle.plan_build.proofs.Along.{has_kept_to, counts_to}

module _ (pairs others : List (RowId × RowId)) (same : (i j : RowId) → Contains pairs (i, j) ↔ Contains others (i, j)) where
  to : (i j : RowId) → Pairs pairs i j → Pairs others i j
  to i j h = (same i j).0 h

  back : (i j : RowId) → Pairs others i j → Pairs pairs i j
  back i j h = (same i j).1 h

  pub plan_of_set : (n : ℕ) (weights : List ℕ) (workers : ℕ) (built : Built) → IsPlan n pairs weights workers built → IsPlan n others weights workers built
  plan_of_set n weights workers built p = record {
    graph = p.graph;
    row_levels = p.row_levels;
    predecessors = record {
      each_row = p.predecessors.each_row;
      pairs_alone = λ i j. (
        λ h. to i j ((p.predecessors.pairs_alone i j).0 h),
        λ h. (p.predecessors.pairs_alone i j).1 (back i j h),
      );
      ascending = p.predecessors.ascending;
    };
    are_levels = p.are_levels;
    edges = record {
      list = p.edges.list;
      distinct = p.edges.distinct;
      same = λ i j. (
        λ h. to i j ((p.edges.same i j).0 h),
        λ h. (p.edges.same i j).1 (back i j h),
      );
      long = p.edges.long;
    };
    levels = p.levels;
    chain = p.chain;
    waits = has_kept_to (Pairs pairs) (Pairs others) to back (groups p.row_levels weights workers) built.sched.workers p.waits;
    cross = counts_to (Pairs pairs) (Pairs others) to back (groups p.row_levels weights workers) built.cross p.cross;
  }
