-- Unit forward substitution with one row and one worker is fit.
use Rattle.std.proofs.Common.{◌≡◌, ◌⊎◌, ℕ, zero, suc, ◌<◌, pos, List, [], ◌∷◌, length, get_or, Some, refl, sym, ap, subst, ◌∙◌, ⊎_elim, rules, arith}
use Rattle.std.specs.Prelude.{Contains, slice_get, IsTrue}
use Rattle.wave_base.specs.declared.types.RowId.{RowId}
use Rattle.sched_types.specs.declared.sched.Task.{Task}
use Rattle.sched_types.specs.Order.{Spot, tasks_of}
use Rattle.sched_types.specs.Fits.{Stands}
use Rattle.loop_core.specs.declared.nest.Atom.TheFolds.{the_lemmas as of_term}
use Rattle.loop_core.specs.declared.nest.Expr.TheFolds.{the_lemmas as of_expr}
use Rattle.loop_core.specs.declared.nest.Item.TheFolds.{the_lemmas as of_item}
use Rattle.loop_core.specs.Lists.{list_of}
use Rattle.loop_core.specs.IsNest.{IsNest}
use Rattle.loop_core.specs.Sizes.{is_index, is_data, declared_length}
use Rattle.loop_core.specs.declared.place.Place.{Place}
use Rattle.loop_core.specs.declared.effect.Effect.{Effect}
use Rattle.loop_core.specs.declared.effect.Effect.TheVariants.{Sets, Keeps}
use Rattle.loop_core.specs.Instances.{Load, Instance, instances}
use Rattle.loop_core.specs.Values.{reads}
use Rattle.loop_core.specs.Touches.{Reads, Writes, IsInside, IsWithinLists}
use Rattle.loop_core.specs.UnitForward.{unit_forward}
use Rattle.core_cells.proofs.Places.{none_is_some, some_same}
use Rattle.core_nest.specs.FitNest.{IsFitNest}
use Rattle.core_nest.specs.OneRow.{one_index, one_data, one_worker}

index_long : (n : ℕ) → IsTrue (is_index unit_forward.decls (record { 0 = n })) → length (list_of one_index.lists (record { 0 = n })) ≡ declared_length unit_forward.decls 1 1 (record { 0 = n })
index_long zero h = refl
index_long (suc zero) h = refl
index_long (suc (suc zero)) h = refl
index_long (suc (suc (suc zero))) h = absurd (cc)
index_long (suc (suc (suc (suc zero)))) h = absurd (cc)
index_long (suc (suc (suc (suc (suc zero))))) h = absurd (cc)
index_long (suc (suc (suc (suc (suc (suc n)))))) h = absurd (cc)

data_long : (n : ℕ) → IsTrue (is_data unit_forward.decls (record { 0 = n })) → length (list_of one_data (record { 0 = n })) ≡ declared_length unit_forward.decls 1 1 (record { 0 = n })
data_long zero h = absurd (cc)
data_long (suc zero) h = absurd (cc)
data_long (suc (suc zero)) h = absurd (cc)
data_long (suc (suc (suc zero))) h = refl
data_long (suc (suc (suc (suc zero)))) h = refl
data_long (suc (suc (suc (suc (suc zero))))) h = refl
data_long (suc (suc (suc (suc (suc (suc n)))))) h = absurd (cc)

-- the one instance: x[0] = b[0]
abbrev start : Instance
start = record { line = 10; effect = Sets (record { array = record { 0 = 5 }; at = pos 0 }); value = Load (record { 0 = 4 }) (pos 0) }

row_is : instances one_index unit_forward (pos 0) ≡ start ∷ []
row_is = search (rules, of_item, of_expr, of_term)

only : {A : Type 0} (x y : A) → Contains (x ∷ []) y → x ≡ y
only x y i = at i.0 i.1 i.2
  where
    at : (k : ℕ) → k < 1 → get_or (x ∷ []) k y ≡ y → x ≡ y
    at zero l e = e
    at (suc k) l e = absurd (omega arith)

abbrev place_of_effect : Effect → Place
place_of_effect (Sets p) = p
place_of_effect (Keeps local) = record { array = record { 0 = 0 }; at = pos 0 }

inside : IsWithinLists unit_forward one_index one_data
inside i p l t = let z : i ≡ 0 = omega arith in
    let t' : Reads (start ∷ []) p ⊎ Writes (start ∷ []) p = subst (λ (ss : List Instance). Reads ss p ⊎ Writes ss p) row_is
    (subst (λ (k : ℕ). Reads (instances one_index unit_forward (pos k)) p ⊎ Writes (instances one_index unit_forward (pos k)) p) z t) in ⊎_elim
    (λ (r : Reads (start ∷ []) p). let s = only start r.0 r.1 in let q = only (record { array = record { 0 = 4 }; at = pos 0 }) p (subst (λ (s : Instance). Contains (reads s.value) p) (sym s) r.2) in
    subst (IsInside one_data) q (0, refl, omega arith))
    (λ (v : Writes (start ∷ []) p). let s = only start v.0 v.1 in
    let q : record { array = record { 0 = 5 }; at = pos 0 } ≡ p = ap place_of_effect (ap (λ (s : Instance). s.effect) s ∙ v.2) in
    subst (IsInside one_data) q (0, refl, omega arith))
    t'

abbrev only_task : Task
only_task = record { level = 0; rows = record { 0 = 0 } ∷ []; waits = [] }

task_is : (k b : ℕ) (t : Task) → slice_get (tasks_of one_worker k) b ≡ Some t → (k ≡ 0) × (b ≡ 0) × (t ≡ only_task)
task_is zero zero t e = (refl, refl, sym (some_same only_task t e))
task_is zero (suc b) t e = absurd (none_is_some t e)
task_is (suc k) b t e = absurd (none_is_some t e)

row_at : (s : ℕ) (r : RowId) → slice_get only_task.rows s ≡ Some r → (s ≡ 0) × (r.0 ≡ 0)
row_at zero r e = (refl, ap (λ (z : RowId). z.0) (sym (some_same (record { 0 = 0 }) r e)))
row_at (suc s) r e = absurd (none_is_some r e)

stands : (r : RowId) (t : Spot) (s : ℕ) → Stands one_worker r t s → (r.0 ≡ 0) × (t ≡ record { worker = 0; at = 0 }) × (s ≡ 0)
stands r t s h = let o = task_is t.worker t.at h.0 h.1 in let q = row_at s r (subst (λ (z : Task). slice_get z.rows s ≡ Some r) o.2 h.2) in
    (q.1, (λ d. record { worker = o.0 d; at = o.1 d }), q.0)

here : (r : RowId) → r.0 < 1 → Stands one_worker r (record { worker = 0; at = 0 }) 0
here r l = let z : r.0 ≡ 0 = omega arith in (only_task, refl, ap Some (λ d. record { 0 = sym z d }))

pub fits : IsNest unit_forward → IsFitNest unit_forward one_index one_data one_worker
fits nest = record {
  is_nest = nest;
  lengths = record { of_index = λ array. index_long array.0; of_data = λ array. data_long array.0 };
  inside = inside;
  some_worker = omega arith;
  few_workers = omega arith;
  fits = record {
    rows_alone = λ r t s h. let e = (stands r t s h).0 in omega arith;
    none_empty = λ t q at. let o = task_is t.worker t.at q at in let e = ap (λ (z : Task). length z.rows) o.2 in omega arith;
    stands = λ r l. (record { worker = 0; at = 0 }, 0, here r l);
    once = λ r t u at spot a b. let x = stands r t at a in let y = stands r u spot b in (x.1 ∙ sym y.1, x.2 ∙ sym y.2);
    ordered = λ i j dep t u at spot a b. let lt = dep.0 in let few = dep.1 in absurd (omega arith);
    waits_stand = λ t q wait at i. let o = task_is t.worker t.at q at in absurd (let e = ap (λ (z : Task). length z.waits) o.2 in let l = i.1 in omega arith);
    levels_rise = λ k i j first second l a b. let x = (task_is k i first a).1 in let y = (task_is k j second b).1 in absurd (omega arith);
    waits_rise = λ t q first wait at here i l there. let o = task_is t.worker t.at q here in absurd (let e = ap (λ (z : Task). length z.waits) o.2 in let l = i.1 in omega arith);
  };
}
