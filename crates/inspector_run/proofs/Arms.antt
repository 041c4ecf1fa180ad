-- One operation of a run.
use Rattle.std.proofs.Common.{◌≡◌, ℕ, ◌+◌, ◌*◌, ◌≤◌, ℤ, Bool, true, cond, List, [], ◌∷◌, ◌++◌, map, length, refl, sym, ap, ◌∙◌, subst, arith, append_assoc}
use Rattle.std.specs.List.{All, flat_map}
use Rattle.std.proofs.lemmas.List.Elements.{All-head, All-tail}
use Rattle.wave_base.specs.declared.types.RowId.{RowId}
use Rattle.loop_core.specs.declared.nest.VarId.{VarId}
use Rattle.loop_core.specs.Lists.{Lists}
use Rattle.loop_core.specs.Binding.{Binding, value_in}
use Rattle.uf_constraints.specs.declared.system.Diff.{Diff}
use Rattle.uf_constraints.specs.Truth.{diff_entries}
use Rattle.inspector_run.specs.declared.plan.InspOp.{InspOp}
use Rattle.inspector_run.specs.declared.plan.InspOp.TheVariants.{Test, Emit}
use Rattle.inspector_run.specs.declared.inverse.Inverse.{Inverse}
use Rattle.inspector_run.specs.Tries.{tried, is_true}
use Rattle.inspector_run.specs.Pairs.{met, met_along, as_rows, IsEarlier, visits_after, visits_along}
use Rattle.inspector_run.specs.Ticks.{entries_in, search_in, found_in, brackets, searches, each_visit}
use Rattle.inspector_run.specs.Ready.{AreNear, fixes, IsNear, SearchesAscending, IsReady, AreReady}
use Rattle.inspector_run.specs.Inverses.{Serve}
use Rattle.inspector_run.proofs.Readied.{ready_along, ready_after}
use Rattle.inspector_run.proofs.Spent.{spent_along, spent_after}

-- the first operation of a run
pub op_near : (a : Lists) (op o : InspOp) (after : List InspOp) (env : List Binding) → op ≡ o → IsReady a (op ∷ after) env → IsNear o
op_near a op o after env is ready = subst IsNear is (All-head IsNear op after ready.near)

pub op_ascending : (a : Lists) (op o : InspOp) (after : List InspOp) (env : List Binding) → op ≡ o → IsReady a (op ∷ after) env → SearchesAscending a o
op_ascending a op o after env is ready = subst (SearchesAscending a) is (All-head (SearchesAscending a) op after ready.ascending)

pub op_served : (a : Lists) (inverses : List Inverse) (op o : InspOp) (after : List InspOp) → op ≡ o → Serve a inverses (flat_map found_in (op ∷ after)) → Serve a inverses (found_in o ++ flat_map found_in after)
op_served a inverses op o after is served = subst (λ p. Serve a inverses (found_in p ++ flat_map found_in after)) is served

-- an operation that tries values for a variable
pub arm_ready : (a : Lists) (op o : InspOp) (after : List InspOp) (v : VarId) (env : List Binding) (values : List ℤ) → op ≡ o → values ≡ tried a env o → fixes o ≡ v ∷ [] → met a (o ∷ after) env ≡ met_along (met a after) v env (tried a env o)
    → AreNear (length env) values → IsReady a (op ∷ after) env → AreReady a after v env values
arm_ready a op o after v env values is are fix same near ready =
    ready_along a o after v env values fix (same ∙ ap (met_along (met a after) v env) (sym are)) near (subst (λ p. IsReady a (p ∷ after) env) is ready)

pub arm_pairs : (a : Lists) (op o : InspOp) (after : List InspOp) (v : VarId) (env : List Binding) (values : List ℤ) (old new : List (RowId × RowId)) → op ≡ o → values ≡ tried a env o → met a (o ∷ after) env ≡ met_along (met a after) v env (tried a env o)
    → new ≡ old ++ map as_rows (met_along (met a after) v env values) → new ≡ old ++ map as_rows (met a (op ∷ after) env)
arm_pairs a op o after v env values old new is are same e =
    e ∙ ap (λ ms. old ++ map as_rows ms) (ap (met_along (met a after) v env) are ∙ sym same ∙ ap (λ p. met a (p ∷ after) env) (sym is))

pub arm_ticks : (a : Lists) (op o : InspOp) (after : List InspOp) (v : VarId) (env : List Binding) (values : List ℤ) (s t u : ℕ) → op ≡ o → values ≡ tried a env o → visits_after a (o ∷ after) env ≡ visits_along (visits_after a after) v env (tried a env o)
    → t ≤ s + (entries_in o + search_in a o) → u ≤ t + visits_along (visits_after a after) v env values * each_visit a after → u ≤ s + (1 + visits_after a (op ∷ after) env) * each_visit a (op ∷ after)
arm_ticks a op o after v env values s t u is are same first rest =
    let many : visits_along (visits_after a after) v env values ≡ visits_after a (o ∷ after) env = ap (visits_along (visits_after a after) v env) are ∙ sym same in
    let rest' : u ≤ t + visits_after a (o ∷ after) env * (brackets after + searches a after) = subst (λ n. u ≤ t + n * (brackets after + searches a after)) many rest in
    subst (λ p. u ≤ s + (1 + visits_after a (p ∷ after) env) * each_visit a (p ∷ after)) (sym is)
    (spent_along s t u (entries_in o) (search_in a o) (brackets after) (searches a after) (visits_after a (o ∷ after) env) first rest')

-- a test
pub test_ready : (a : Lists) (op : InspOp) (d : Diff) (after : List InspOp) (env : List Binding) (holds : Bool) → op ≡ Test d → holds ≡ is_true a env d → IsReady a (op ∷ after) env → holds ≡ true → IsReady a after env
test_ready a op d after env holds is truth ready h =
    let whole : IsReady a (Test d ∷ after) env = subst (λ p. IsReady a (p ∷ after) env) is ready in
    ready_after a (Test d) after env refl (subst (λ b. All (IsEarlier a.n) (cond b (met a after env) [])) (sym truth ∙ h) whole.earlier) whole

pub test_pairs : (a : Lists) (op : InspOp) (d : Diff) (after : List InspOp) (env : List Binding) (holds : Bool) (old new : List (RowId × RowId)) → op ≡ Test d → holds ≡ is_true a env d
    → new ≡ old ++ map as_rows (cond holds (met a after env) []) → new ≡ old ++ map as_rows (met a (op ∷ after) env)
test_pairs a op d after env holds old new is truth e =
    e ∙ ap (λ ms. old ++ map as_rows ms) (ap (λ b. cond b (met a after env) []) truth ∙ ap (λ p. met a (p ∷ after) env) (sym is))

pub test_ticks : (a : Lists) (op : InspOp) (d : Diff) (after : List InspOp) (env : List Binding) (holds : Bool) (s t u : ℕ) → op ≡ Test d → holds ≡ is_true a env d
    → t ≡ s + diff_entries d → u ≤ t + (1 + cond holds (visits_after a after env) 0) * each_visit a after → u ≤ s + (1 + visits_after a (op ∷ after) env) * each_visit a (op ∷ after)
test_ticks a op d after env holds s t u is truth first rest =
    let rest' : u ≤ t + (1 + visits_after a (Test d ∷ after) env) * (brackets after + searches a after) =
    subst (λ b. u ≤ t + (1 + cond b (visits_after a after env) 0) * (brackets after + searches a after)) truth rest in
    subst (λ p. u ≤ s + (1 + visits_after a (p ∷ after) env) * each_visit a (p ∷ after)) (sym is)
    (spent_after s t u (diff_entries d) 0 (brackets after) (searches a after) (visits_after a (Test d ∷ after) env) (omega (arith, first)) rest')

-- an `Emit`
pub emit_earlier : (a : Lists) (op : InspOp) (i j : VarId) (after : List InspOp) (env : List Binding) → op ≡ Emit i j → IsReady a (op ∷ after) env → IsEarlier a.n (value_in env i, value_in env j)
emit_earlier a op i j after env is ready =
    let whole : IsReady a (Emit i j ∷ after) env = subst (λ p. IsReady a (p ∷ after) env) is ready in
    All-head (IsEarlier a.n) (value_in env i, value_in env j) (met a after env) whole.earlier

pub emit_ready : (a : Lists) (op : InspOp) (i j : VarId) (after : List InspOp) (env : List Binding) → op ≡ Emit i j → IsReady a (op ∷ after) env → IsReady a after env
emit_ready a op i j after env is ready =
    let whole : IsReady a (Emit i j ∷ after) env = subst (λ p. IsReady a (p ∷ after) env) is ready in
    ready_after a (Emit i j) after env refl (All-tail (IsEarlier a.n) (value_in env i, value_in env j) (met a after env) whole.earlier) whole

pub emit_pairs : (a : Lists) (op : InspOp) (i j : VarId) (after : List InspOp) (env : List Binding) (old more new : List (RowId × RowId)) → op ≡ Emit i j → more ≡ old ++ as_rows (value_in env i, value_in env j) ∷ []
    → new ≡ more ++ map as_rows (met a after env) → new ≡ old ++ map as_rows (met a (op ∷ after) env)
emit_pairs a op i j after env old more new is first rest =
    let pair : RowId × RowId = as_rows (value_in env i, value_in env j) in
    rest ∙ ap (λ l. l ++ map as_rows (met a after env)) first ∙ append_assoc old (pair ∷ []) (map as_rows (met a after env))
    ∙ ap (λ p. old ++ map as_rows (met a (p ∷ after) env)) (sym is)

pub emit_ticks : (a : Lists) (op : InspOp) (i j : VarId) (after : List InspOp) (env : List Binding) (s u : ℕ) → op ≡ Emit i j → u ≤ s + (1 + visits_after a after env) * each_visit a after → u ≤ s + (1 + visits_after a (op ∷ after) env) * each_visit a (op ∷ after)
emit_ticks a op i j after env s u is rest =
    subst (λ p. u ≤ s + (1 + visits_after a (p ∷ after) env) * each_visit a (p ∷ after)) (sym is)
    (spent_after s s u 0 0 (brackets after) (searches a after) (visits_after a after env) (omega arith) rest)

pub more_ticks : (s k : ℕ) → s ≤ s + k
more_ticks s k = omega arith
