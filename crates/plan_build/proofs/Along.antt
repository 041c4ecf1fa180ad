-- What is said of one relation between rows holds of each that says the same.
use Rattle.std.proofs.Common.{ℕ, inl, inr, List}
use Rattle.wave_base.specs.declared.types.RowId.{RowId}
use Rattle.sched_types.specs.declared.sched.Task.{Task}
use Rattle.sched_types.specs.declared.sched.RowTask.{RowTask}
use Rattle.sched_types.specs.Order.{Spot}
use Rattle.sched_types.specs.Kept.{IsCross, Plus, IsKept, HasKeptWaits}
use Rattle.sched_types.specs.Fits.{Fits}
use Rattle.wait_sparsify.specs.Depends.{CountsCross}

module _ (Dep Same : RowId → RowId → Type 0) (to : (i j : RowId) → Dep i j → Same i j) (back : (i j : RowId) → Same i j → Dep i j) (tasks : List (List RowTask)) where
  cross_to : (p q : Spot) → IsCross Dep tasks p q → IsCross Same tasks p q
  cross_to p q c = (c.0, c.1, c.2, c.3, c.4, c.5, c.6, c.7, c.8, to c.5 c.6 c.9)

  cross_back : (p q : Spot) → IsCross Same tasks p q → IsCross Dep tasks p q
  cross_back p q c = (c.0, c.1, c.2, c.3, c.4, c.5, c.6, c.7, c.8, back c.5 c.6 c.9)

  plus_to : (p q : Spot) → Plus Dep tasks p q → Plus Same tasks p q
  plus_to p q (inl c) = inl (cross_to p q c)
  plus_to p q (inr e) = inr e

  plus_back : (p q : Spot) → Plus Same tasks p q → Plus Dep tasks p q
  plus_back p q (inl c) = inl (cross_back p q c)
  plus_back p q (inr e) = inr e

  kept_to : (p q : Spot) → IsKept Dep tasks p q → IsKept Same tasks p q
  kept_to p q k = (cross_to p q k.0, λ v a b. k.1 v (plus_back p v a) (plus_back v q b))

  kept_back : (p q : Spot) → IsKept Same tasks p q → IsKept Dep tasks p q
  kept_back p q k = (cross_back p q k.0, λ v a b. k.1 v (plus_to p v a) (plus_to v q b))

  pub has_kept_to : (workers : List (List Task)) → HasKeptWaits Dep tasks workers → HasKeptWaits Same tasks workers
  has_kept_to workers h = record {
    same_tasks = h.same_tasks;
    waits = λ place task at.
        let w = h.waits place task at in
        record {
          ascending = w.ascending;
          some_task = w.some_task;
          kept_alone = λ first. (
            λ c. kept_to first place ((w.kept_alone first).0 c),
            λ k. (w.kept_alone first).1 (kept_back first place k),
          );
        };
  }

  pub counts_to : (count : ℕ) → CountsCross Dep tasks count → CountsCross Same tasks count
  counts_to count c = record {
    pairs = c.pairs;
    distinct = c.distinct;
    cross_alone = λ p q. (
      λ h. cross_to p q ((c.cross_alone p q).0 h),
      λ h. (c.cross_alone p q).1 (cross_back p q h),
    );
    long = c.long;
  }

  pub fits_to : (rows : ℕ) (workers : List (List Task)) → Fits rows Dep workers → Fits rows Same workers
  fits_to rows workers f = record {
    rows_alone = f.rows_alone;
    none_empty = f.none_empty;
    stands = f.stands;
    once = f.once;
    ordered = λ i j d. f.ordered i j (back i j d);
    waits_stand = f.waits_stand;
    levels_rise = f.levels_rise;
    waits_rise = f.waits_rise;
  }
