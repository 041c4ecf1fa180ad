-- The operations that are needed give the same pairs and visits, with no more brackets.
use Rattle.std.proofs.Common.{◌≡◌, ℕ, ◌+◌, ◌*◌, ◌≤◌, ℤ, true, false, cond, not, List, [], ◌∷◌, ◌++◌, map, length, refl, sym, ap, ◌∙◌, subst, arith}
use Rattle.std.specs.List.{All, flat_map, list_all}
use Rattle.std.proofs.Math.Nat.{mul-le-mul_left}
use Rattle.std.proofs.lemmas.Bool.{false≢true}
use Rattle.std.proofs.lemmas.List.Elements.{All-nil, All-cons, All-head, All-tail, All-weaker}
use Rattle.loop_core.specs.declared.nest.VarId.{VarId}
use Rattle.loop_core.specs.Lists.{Lists}
use Rattle.loop_core.specs.Binding.{Binding, value_in}
use Rattle.uf_constraints.specs.declared.system.Diff.{Diff}
use Rattle.inspector_run.specs.declared.plan.InspOp.{InspOp}
use Rattle.inspector_run.specs.declared.plan.InspOp.TheVariants.{Loop, Let, Find, Locate, Test, Emit}
use Rattle.inspector_run.specs.Tries.{tried, is_true}
use Rattle.inspector_run.specs.Pairs.{fixed, met, met_along, as_rows, emitted, IsEarlier, visits_after, visits_along, visits}
use Rattle.inspector_run.specs.Ticks.{brackets, searches, found_in, found_arrays, different, listed, most_ticks}
use Rattle.inspector_run.specs.Ready.{fixes, IsNear, SearchesAscending, IsReady}
use Rattle.inspector_run.specs.IsPlan.{uses, is_among, AreFixedInOrder, IsPlan}
use Rattle.inspector_run.specs.Needed.{is_sure, needed, needed_after}
use Rattle.inspector_run.proofs.Emitting.{known_or, not_yet}
use Rattle.inspector_run.proofs.Planned.{plan_ready}
use Rattle.inspector_run.proofs.Sure.{Says, says, loop_says, let_says}

-- Pairs and visits.

record Same (a : Lists) (ops kept : List InspOp) (env : List Binding) : Type 0 where
  pub met : met a kept env ≡ met a ops env
  pub visits : visits_after a kept env ≡ visits_after a ops env

abbrev SameAlong : Lists → List InspOp → List InspOp → VarId → List Binding → List ℤ → Type 0
SameAlong a ops kept v env values = All (λ x. Same a ops kept (fixed v x env)) values

met_same : (a : Lists) (ops kept : List InspOp) (v : VarId) (env : List Binding) (values : List ℤ) → SameAlong a ops kept v env values → met_along (met a kept) v env values ≡ met_along (met a ops) v env values
met_same a ops kept v env [] all = refl
met_same a ops kept v env (x ∷ xs) all =
    let here : Same a ops kept (fixed v x env) = All-head (λ y. Same a ops kept (fixed v y env)) x xs all in
    let rest : met_along (met a kept) v env xs ≡ met_along (met a ops) v env xs = met_same a ops kept v env xs (All-tail (λ y. Same a ops kept (fixed v y env)) x xs all) in
    ap (λ l. l ++ met_along (met a kept) v env xs) here.met ∙ ap (λ l. met a ops (fixed v x env) ++ l) rest

visits_same : (a : Lists) (ops kept : List InspOp) (v : VarId) (env : List Binding) (values : List ℤ) → SameAlong a ops kept v env values
    → visits_along (visits_after a kept) v env values ≡ visits_along (visits_after a ops) v env values
visits_same a ops kept v env [] all = refl
visits_same a ops kept v env (x ∷ xs) all =
    let here : Same a ops kept (fixed v x env) = All-head (λ y. Same a ops kept (fixed v y env)) x xs all in
    let rest : visits_along (visits_after a kept) v env xs ≡ visits_along (visits_after a ops) v env xs = visits_same a ops kept v env xs (All-tail (λ y. Same a ops kept (fixed v y env)) x xs all) in
    ap (λ k. (1 + k) + visits_along (visits_after a kept) v env xs) here.visits ∙ ap (λ k. (1 + visits_after a ops (fixed v x env)) + k) rest

each : {P : ℤ → Type 0} (xs : List ℤ) → ((x : ℤ) → P x) → All P xs
each {P} [] f = All-nil P
each {P} (x ∷ xs) f = All-cons P x xs (f x) (each xs f)

-- what follows an operation is the same wherever what it says is true
abbrev SameAfter : Lists → InspOp → List InspOp → List InspOp → Type 0
SameAfter a op ops kept = (env : List Binding) → Says a op env → Same a ops kept env

along : (a : Lists) (op : InspOp) (ops kept : List InspOp) (v : VarId) (env : List Binding) (values : List ℤ) → SameAfter a op ops kept → All (λ x. Says a op (fixed v x env)) values → SameAlong a ops kept v env values
along a op ops kept v env values same all =
    All-weaker (λ x. Says a op (fixed v x env)) (λ x. Same a ops kept (fixed v x env)) (λ x s. same (fixed v x env) s) values all

-- an operation that is kept
kept_step : (a : Lists) (op : InspOp) (ops kept : List InspOp) (vars : List VarId) (env : List Binding) → list_all (is_among vars) (uses op) ≡ true → list_all (λ v. not (is_among vars v)) (fixes op) ≡ true
    → SameAfter a op ops kept → Same a (op ∷ ops) (op ∷ kept) env
kept_step a (Loop v lo hi) ops kept vars env known once same =
    let all = along a (Loop v lo hi) ops kept v env (tried a env (Loop v lo hi)) same (loop_says a vars v lo hi env (not_yet vars v once) known) in
    record { met = met_same a ops kept v env (tried a env (Loop v lo hi)) all; visits = visits_same a ops kept v env (tried a env (Loop v lo hi)) all }
kept_step a (Let v t) ops kept vars env known once same =
    let all = along a (Let v t) ops kept v env (tried a env (Let v t)) same (let_says a vars v t env (not_yet vars v once) known) in
    record { met = met_same a ops kept v env (tried a env (Let v t)) all; visits = visits_same a ops kept v env (tried a env (Let v t)) all }
kept_step a (Find v f plus t) ops kept vars env known once same =
    let all = along a (Find v f plus t) ops kept v env (tried a env (Find v f plus t)) same (each (tried a env (Find v f plus t)) (λ x. says a (Find v f plus t) (fixed v x env) (λ d e. absurd (false≢true e)))) in
    record { met = met_same a ops kept v env (tried a env (Find v f plus t)) all; visits = visits_same a ops kept v env (tried a env (Find v f plus t)) all }
kept_step a (Locate v p plus t) ops kept vars env known once same =
    let all = along a (Locate v p plus t) ops kept v env (tried a env (Locate v p plus t)) same (each (tried a env (Locate v p plus t)) (λ x. says a (Locate v p plus t) (fixed v x env) (λ d e. absurd (false≢true e)))) in
    record { met = met_same a ops kept v env (tried a env (Locate v p plus t)) all; visits = visits_same a ops kept v env (tried a env (Locate v p plus t)) all }
kept_step a (Test d) ops kept vars env known once same =
    let rest : Same a ops kept env = same env (says a (Test d) env (λ e h. absurd (false≢true h))) in
    record { met = ap (λ l. cond (is_true a env d) l []) rest.met; visits = ap (λ k. cond (is_true a env d) k 0) rest.visits }
kept_step a (Emit i j) ops kept vars env known once same =
    let rest : Same a ops kept env = same env (says a (Emit i j) env (λ e h. absurd (false≢true h))) in
    record { met = ap (λ l. (value_in env i, value_in env j) ∷ l) rest.met; visits = rest.visits }

same_after : (a : Lists) (ops : List InspOp) (last : InspOp) (vars : List VarId) (env : List Binding) → AreFixedInOrder vars ops → Says a last env → Same a ops (needed_after last ops) env
same_after a [] last vars env order said = record { met = refl; visits = refl }
same_after a (Test d ∷ ops) last vars env order said =
    let rest : Same a ops (needed_after last ops) env = same_after a ops last vars env order.2 said in
    known_or (is_sure last d) (λ b. Same a (Test d ∷ ops) (cond b (needed_after last ops) (Test d ∷ needed_after last ops)) env)
    (λ sure.
    let holds : is_true a env d ≡ true = said d sure in
    record {
      met = rest.met ∙ sym (ap (λ b. cond b (met a ops env) []) holds);
      visits = rest.visits ∙ sym (ap (λ b. cond b (visits_after a ops env) 0) holds);
    })
    (λ open_still. record { met = ap (λ l. cond (is_true a env d) l []) rest.met; visits = ap (λ k. cond (is_true a env d) k 0) rest.visits })
same_after a (Emit i j ∷ ops) last vars env order said =
    let rest : Same a ops (needed_after last ops) env = same_after a ops last vars env order.2 said in
    record { met = ap (λ l. (value_in env i, value_in env j) ∷ l) rest.met; visits = rest.visits }
same_after a (Loop v lo hi ∷ ops) last vars env order said =
    kept_step a (Loop v lo hi) ops (needed_after (Loop v lo hi) ops) vars env order.0 order.1 (λ e s. same_after a ops (Loop v lo hi) (v ∷ vars) e order.2 s)
same_after a (Let v t ∷ ops) last vars env order said =
    kept_step a (Let v t) ops (needed_after (Let v t) ops) vars env order.0 order.1 (λ e s. same_after a ops (Let v t) (v ∷ vars) e order.2 s)
same_after a (Find v f plus t ∷ ops) last vars env order said =
    kept_step a (Find v f plus t) ops (needed_after (Find v f plus t) ops) vars env order.0 order.1 (λ e s. same_after a ops (Find v f plus t) (v ∷ vars) e order.2 s)
same_after a (Locate v p plus t ∷ ops) last vars env order said =
    kept_step a (Locate v p plus t) ops (needed_after (Locate v p plus t) ops) vars env order.0 order.1 (λ e s. same_after a ops (Locate v p plus t) (v ∷ vars) e order.2 s)

same_needed : (a : Lists) (ops : List InspOp) → AreFixedInOrder [] ops → Same a ops (needed ops) []
same_needed a [] order = record { met = refl; visits = refl }
same_needed a (op ∷ ops) order =
    kept_step a op ops (needed_after op ops) [] [] order.0 order.1 (λ e s. same_after a ops op (fixes op ++ []) e order.2 s)

-- Lists.

all_after : (P : InspOp → Type 0) (last : InspOp) (ops : List InspOp) → All P ops → All P (needed_after last ops)
all_after P last [] all = All-nil P
all_after P last (Test d ∷ ops) all =
    let rest : All P (needed_after last ops) = all_after P last ops (All-tail P (Test d) ops all) in
    known_or (is_sure last d) (λ b. All P (cond b (needed_after last ops) (Test d ∷ needed_after last ops)))
    (λ _. rest) (λ _. All-cons P (Test d) (needed_after last ops) (All-head P (Test d) ops all) rest)
all_after P last (Emit i j ∷ ops) all =
    All-cons P (Emit i j) (needed_after last ops) (All-head P (Emit i j) ops all) (all_after P last ops (All-tail P (Emit i j) ops all))
all_after P last (Loop v lo hi ∷ ops) all =
    All-cons P (Loop v lo hi) (needed_after (Loop v lo hi) ops) (All-head P (Loop v lo hi) ops all) (all_after P (Loop v lo hi) ops (All-tail P (Loop v lo hi) ops all))
all_after P last (Let v t ∷ ops) all =
    All-cons P (Let v t) (needed_after (Let v t) ops) (All-head P (Let v t) ops all) (all_after P (Let v t) ops (All-tail P (Let v t) ops all))
all_after P last (Find v f plus t ∷ ops) all =
    All-cons P (Find v f plus t) (needed_after (Find v f plus t) ops) (All-head P (Find v f plus t) ops all) (all_after P (Find v f plus t) ops (All-tail P (Find v f plus t) ops all))
all_after P last (Locate v p plus t ∷ ops) all =
    All-cons P (Locate v p plus t) (needed_after (Locate v p plus t) ops) (All-head P (Locate v p plus t) ops all) (all_after P (Locate v p plus t) ops (All-tail P (Locate v p plus t) ops all))

all_needed : (P : InspOp → Type 0) (ops : List InspOp) → All P ops → All P (needed ops)
all_needed P [] all = all
all_needed P (op ∷ ops) all = All-cons P op (needed_after op ops) (All-head P op ops all) (all_after P op ops (All-tail P op ops all))

-- a list that tests have no part in
flat_after : {X : Type 0} (f : InspOp → List X) → ((d : Diff) → f (Test d) ≡ []) → (last : InspOp) (ops : List InspOp) → flat_map f (needed_after last ops) ≡ flat_map f ops
flat_after f none last [] = refl
flat_after f none last (Test d ∷ ops) =
    let rest : flat_map f (needed_after last ops) ≡ flat_map f ops = flat_after f none last ops in
    known_or (is_sure last d) (λ b. flat_map f (cond b (needed_after last ops) (Test d ∷ needed_after last ops)) ≡ flat_map f (Test d ∷ ops))
    (λ _. rest ∙ sym (ap (λ l. l ++ flat_map f ops) (none d))) (λ _. ap (λ l. f (Test d) ++ l) rest)
flat_after f none last (Emit i j ∷ ops) = ap (λ l. f (Emit i j) ++ l) (flat_after f none last ops)
flat_after f none last (Loop v lo hi ∷ ops) = ap (λ l. f (Loop v lo hi) ++ l) (flat_after f none (Loop v lo hi) ops)
flat_after f none last (Let v t ∷ ops) = ap (λ l. f (Let v t) ++ l) (flat_after f none (Let v t) ops)
flat_after f none last (Find v g plus t ∷ ops) = ap (λ l. f (Find v g plus t) ++ l) (flat_after f none (Find v g plus t) ops)
flat_after f none last (Locate v p plus t ∷ ops) = ap (λ l. f (Locate v p plus t) ++ l) (flat_after f none (Locate v p plus t) ops)

flat_needed : {X : Type 0} (f : InspOp → List X) → ((d : Diff) → f (Test d) ≡ []) → (ops : List InspOp) → flat_map f (needed ops) ≡ flat_map f ops
flat_needed f none [] = refl
flat_needed f none (op ∷ ops) = ap (λ l. f op ++ l) (flat_after f none op ops)

record Fewer (a : Lists) (ops kept : List InspOp) : Type 0 where
  pub brackets : brackets kept ≤ brackets ops
  pub searches : searches a kept ≤ searches a ops

fewer_more : (a : Lists) (op : InspOp) (ops kept : List InspOp) → Fewer a ops kept → Fewer a (op ∷ ops) (op ∷ kept)
fewer_more a op ops kept f =
    let b : brackets kept ≤ brackets ops = f.brackets in
    let s : searches a kept ≤ searches a ops = f.searches in
    record { brackets = omega arith; searches = omega arith }

fewer_less : (a : Lists) (op : InspOp) (ops kept : List InspOp) → Fewer a ops kept → Fewer a (op ∷ ops) kept
fewer_less a op ops kept f =
    let b : brackets kept ≤ brackets ops = f.brackets in
    let s : searches a kept ≤ searches a ops = f.searches in
    record { brackets = omega arith; searches = omega arith }

fewer_after : (a : Lists) (last : InspOp) (ops : List InspOp) → Fewer a ops (needed_after last ops)
fewer_after a last [] = record { brackets = omega arith; searches = omega arith }
fewer_after a last (Test d ∷ ops) =
    let rest : Fewer a ops (needed_after last ops) = fewer_after a last ops in
    known_or (is_sure last d) (λ b. Fewer a (Test d ∷ ops) (cond b (needed_after last ops) (Test d ∷ needed_after last ops)))
    (λ _. fewer_less a (Test d) ops (needed_after last ops) rest) (λ _. fewer_more a (Test d) ops (needed_after last ops) rest)
fewer_after a last (Emit i j ∷ ops) = fewer_more a (Emit i j) ops (needed_after last ops) (fewer_after a last ops)
fewer_after a last (Loop v lo hi ∷ ops) = fewer_more a (Loop v lo hi) ops (needed_after (Loop v lo hi) ops) (fewer_after a (Loop v lo hi) ops)
fewer_after a last (Let v t ∷ ops) = fewer_more a (Let v t) ops (needed_after (Let v t) ops) (fewer_after a (Let v t) ops)
fewer_after a last (Find v f plus t ∷ ops) = fewer_more a (Find v f plus t) ops (needed_after (Find v f plus t) ops) (fewer_after a (Find v f plus t) ops)
fewer_after a last (Locate v p plus t ∷ ops) = fewer_more a (Locate v p plus t) ops (needed_after (Locate v p plus t) ops) (fewer_after a (Locate v p plus t) ops)

fewer_needed : (a : Lists) (ops : List InspOp) → Fewer a ops (needed ops)
fewer_needed a [] = record { brackets = omega arith; searches = omega arith }
fewer_needed a (op ∷ ops) = fewer_more a op ops (needed_after op ops) (fewer_after a op ops)

-- A plan.

pub needed_ready : (a : Lists) (ops : List InspOp) → IsPlan ops → All (SearchesAscending a) ops → IsReady a (needed ops) []
needed_ready a ops plan ascending =
    let whole : IsReady a ops [] = plan_ready a ops plan ascending in
    record {
      held = whole.held;
      few = subst (λ vs. length (let none : List Binding = [] in none) + length vs ≤ 12) (sym (flat_needed fixes (λ d. refl) ops)) whole.few;
      near = all_needed IsNear ops whole.near;
      ascending = all_needed (SearchesAscending a) ops whole.ascending;
      earlier = subst (All (IsEarlier a.n)) (sym (same_needed a ops plan.in_order).met) whole.earlier;
    }

pub needed_emitted : (a : Lists) (ops : List InspOp) → IsPlan ops → emitted a (needed ops) ≡ emitted a ops
needed_emitted a ops plan = ap (map as_rows) (same_needed a ops plan.in_order).met

pub needed_ticks : (a : Lists) (ops : List InspOp) (s t : ℕ) → IsPlan ops → t ≤ s + most_ticks a (needed ops) → t ≤ s + most_ticks a ops
needed_ticks a ops s t plan within =
    let same : visits a (needed ops) ≡ visits a ops = ap (λ k. 1 + k) (same_needed a ops plan.in_order).visits in
    let lists : listed a (found_arrays (needed ops)) ≡ listed a (found_arrays ops) = ap (λ fs. listed a (different fs)) (flat_needed found_in (λ d. refl) ops) in
    let fewer : Fewer a ops (needed ops) = fewer_needed a ops in
    let b : brackets (needed ops) ≤ brackets ops = fewer.brackets in
    let d : searches a (needed ops) ≤ searches a ops = fewer.searches in
    let v : ℕ = visits a ops in
    let vb : v * brackets (needed ops) ≤ v * brackets ops = mul-le-mul_left v b in
    let vd : v * searches a (needed ops) ≤ v * searches a ops = mul-le-mul_left v d in
    let inner : t ≤ s + (v * brackets (needed ops) + listed a (found_arrays ops) + v * searches a (needed ops)) =
    subst (λ k. t ≤ s + (k * brackets (needed ops) + listed a (found_arrays ops) + k * searches a (needed ops))) same
    (subst (λ l. t ≤ s + (visits a (needed ops) * brackets (needed ops) + l + visits a (needed ops) * searches a (needed ops))) lists within) in
    omega arith
