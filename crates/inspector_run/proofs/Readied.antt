-- What a run asks for, one operation or one value further.
use Rattle.std.proofs.Common.{◌≡◌, suc, ℤ, ◌+◌, ◌≤◌, List, [], ◌∷◌, ◌++◌, subst, arith, length, unsigned_abs}
use Rattle.std.specs.List.{All, flat_map}
use Rattle.std.proofs.lemmas.List.Elements.{All-nil, All-cons, All-head, All-tail, All-weaker}
use Rattle.loop_core.specs.declared.nest.VarId.{VarId}
use Rattle.loop_core.specs.Lists.{Lists}
use Rattle.loop_core.specs.Binding.{Binding}
use Rattle.inspector_run.specs.declared.plan.InspOp.{InspOp}
use Rattle.inspector_run.specs.Pairs.{fixed, met, met_along, IsEarlier}
use Rattle.inspector_run.specs.Ready.{reach, AreNear, AreHeld, fixes, IsNear, SearchesAscending, IsReady, AreReady}

pub All-front : {X : Type 0} (P : X → Type 0) (xs ys : List X) → All P (xs ++ ys) → All P xs
All-front P [] ys all = All-nil P
All-front P (x ∷ xs) ys all = All-cons P x xs (All-head P x (xs ++ ys) all) (All-front P xs ys (All-tail P x (xs ++ ys) all))

pub All-back : {X : Type 0} (P : X → Type 0) (xs ys : List X) → All P (xs ++ ys) → All P ys
All-back P [] ys all = all
All-back P (x ∷ xs) ys all = All-back P xs ys (All-tail P x (xs ++ ys) all)

held_more : (v : VarId) (x : ℤ) (env : List Binding) → AreHeld env → length env + 1 ≤ 12 → unsigned_abs x ≤ reach (length env + 1) → AreHeld (fixed v x env)
held_more v x env held few near =
    let k = suc (length env) in
    let here : unsigned_abs x ≤ reach k = omega arith in
    record {
      few = omega arith;
      within = All-cons (λ c. unsigned_abs c.value ≤ reach k) (record { var = v; value = x }) env here
          (All-weaker (λ c. unsigned_abs c.value ≤ reach (length env)) (λ c. unsigned_abs c.value ≤ reach k) (λ c w. omega arith) env held.within);
    }

-- each value that is tried may be run
ready_values : (a : Lists) (ops : List InspOp) (v : VarId) (env : List Binding) (values : List ℤ) → AreHeld env → length env + 1 + length (flat_map fixes ops) ≤ 12
    → All IsNear ops → All (SearchesAscending a) ops → All (IsEarlier a.n) (met_along (met a ops) v env values) → AreNear (length env) values → AreReady a ops v env values
ready_values a ops v env [] held few near ascending earlier reached = All-nil (λ x. IsReady a ops (fixed v x env))
ready_values a ops v env (x ∷ xs) held few near ascending earlier reached =
    let B : ℤ → Type 0 = λ y. unsigned_abs y ≤ reach (length env + 1) in
    let room : length env + 1 ≤ 12 = omega arith in
    let here : IsReady a ops (fixed v x env) = record {
      held = held_more v x env held room (All-head B x xs reached);
      few = omega arith;
      near = near;
      ascending = ascending;
      earlier = All-front (IsEarlier a.n) (met a ops (fixed v x env)) (met_along (met a ops) v env xs) earlier;
    } in
    All-cons (λ y. IsReady a ops (fixed v y env)) x xs here
    (ready_values a ops v env xs held few near ascending (All-back (IsEarlier a.n) (met a ops (fixed v x env)) (met_along (met a ops) v env xs) earlier) (All-tail B x xs reached))

pub ready_along : (a : Lists) (op : InspOp) (ops : List InspOp) (v : VarId) (env : List Binding) (values : List ℤ) → fixes op ≡ v ∷ [] → met a (op ∷ ops) env ≡ met_along (met a ops) v env values
    → AreNear (length env) values → IsReady a (op ∷ ops) env → AreReady a ops v env values
ready_along a op ops v env values fix same reached ready =
    let few : length env + length (fixes op ++ flat_map fixes ops) ≤ 12 = ready.few in
    let room : length env + 1 + length (flat_map fixes ops) ≤ 12 = omega (arith, rw fix at few) in
    ready_values a ops v env values ready.held room (All-tail IsNear op ops ready.near) (All-tail (SearchesAscending a) op ops ready.ascending) (subst (All (IsEarlier a.n)) same ready.earlier) reached

pub ready_after : (a : Lists) (op : InspOp) (ops : List InspOp) (env : List Binding) → fixes op ≡ [] → All (IsEarlier a.n) (met a ops env) → IsReady a (op ∷ ops) env → IsReady a ops env
ready_after a op ops env fix earlier ready =
    let few : length env + length (fixes op ++ flat_map fixes ops) ≤ 12 = ready.few in
    record {
      held = ready.held;
      few = rw fix at few;
      near = All-tail IsNear op ops ready.near;
      ascending = All-tail (SearchesAscending a) op ops ready.ascending;
      earlier = earlier;
    }
