-- A plan emits earlier rows with later ones.
use Rattle.std.proofs.Common.{rules, ◌≡◌, ℕ, zero, suc, ◌<◌, ℤ, pos, ◌-ℤ◌, ◌≤ℤ◌, ◌<ℤ◌, Bool, true, false, cond, not, ◌⊎◌, inl, inr, List, [], ◌∷◌, ◌++◌, refl, sym, ap, ◌∙◌, subst, arith, int_le}
use Rattle.std.specs.Prelude.{◌==◌, slice_index_or}
use Rattle.std.specs.List.{All, Contains, flat_map, list_all}
use Rattle.std.proofs.lemmas.Int.{ints}
use Rattle.std.proofs.lemmas.Bool.{both_ways, and_parts, and_from, or_right, not-true, eqb-true, false≢true}
use Rattle.std.proofs.lemmas.List.Elements.{All-nil, All-cons, All-append, Contains-append_cases}
use Rattle.loop_core.specs.declared.nest.VarId.{VarId}
use Rattle.loop_core.specs.declared.nest.Side.{Side}
use Rattle.loop_core.specs.declared.nest.Side.TheVariants.{Own, First, Second}
use Rattle.loop_core.specs.declared.nest.Atom.TheVariants.{Zero, N, Var}
use Rattle.loop_core.specs.declared.nest.Atom.TheFolds.{the_lemmas as of_atom}
use Rattle.loop_core.specs.Lists.{Lists}
use Rattle.loop_core.specs.Binding.{Binding, value_in, same_variable, same_side}
use Rattle.loop_core.specs.Terms.{atom_value}
use Rattle.uf_constraints.specs.declared.system.Diff.{Diff}
use Rattle.inspector_run.specs.declared.plan.InspOp.{InspOp}
use Rattle.inspector_run.specs.declared.plan.InspOp.TheVariants.{Loop, Let, Find, Locate, Test, Emit}
use Rattle.inspector_run.specs.Tries.{tried, is_true}
use Rattle.inspector_run.specs.Pairs.{fixed, met, IsEarlier}
use Rattle.inspector_run.specs.IsPlan.{uses, is_among, AreFixedInOrder, tests, emits, from_zero, one_below, below_rows, IsPlan}

-- Variables.

sides_are : (a b : Side) → same_side a b ≡ true → a ≡ b
sides_are Own Own e = refl
sides_are First First e = refl
sides_are Second Second e = refl
sides_are Own First e = absurd (false≢true e)
sides_are Own Second e = absurd (false≢true e)
sides_are First Own e = absurd (false≢true e)
sides_are First Second e = absurd (false≢true e)
sides_are Second Own e = absurd (false≢true e)
sides_are Second First e = absurd (false≢true e)

same_variable_is : (v w : VarId) → same_variable v w ≡ true → v ≡ w
same_variable_is v w e =
    let parts = and_parts (v.line == w.line) (same_side v.side w.side) e in
    let at : ℕ → Side → VarId = λ line side. record { line = line; side = side } in
    ap (λ n. at n v.side) (eqb-true v.line w.line parts.0) ∙ ap (at w.line) (sides_are v.side w.side parts.1)

pub known_or : (b : Bool) (P : Bool → Type 0) → (b ≡ true → P true) → (b ≡ false → P false) → P b
known_or true P f g = f refl
known_or false P f g = g refl

pub other_variable : (vars : List VarId) (v i : VarId) → is_among vars i ≡ true → is_among vars v ≡ false → same_variable v i ≡ false
other_variable vars v i has none =
    known_or (same_variable v i) (λ b. b ≡ false)
    (λ e. absurd (both_ways (is_among vars v) none (subst (λ w. is_among vars w ≡ true) (sym (same_variable_is v i e)) has)))
    (λ e. refl)

pub still : (v : VarId) (x : ℤ) (env : List Binding) (i : VarId) → same_variable v i ≡ false → value_in (fixed v x env) i ≡ value_in env i
still v x env i e = ap (λ b. cond b x (value_in env i)) e

among_more : (vars used : List VarId) (v : VarId) → list_all (is_among vars) used ≡ true → list_all (is_among (v ∷ vars)) used ≡ true
among_more vars [] v all = refl
among_more vars (u ∷ us) v all =
    let parts = and_parts (is_among vars u) (list_all (is_among vars) us) all in
    and_from (is_among (v ∷ vars) u) (list_all (is_among (v ∷ vars)) us) (or_right (same_variable v u) (is_among vars u) parts.0) (among_more vars us v parts.1)

-- A fact about variables that are fixed, or the test of it that is still to come.

abbrev pub Due : List VarId → (List Binding → Type 0) → Diff → List VarId → List Binding → List Diff → Type 0
Due used P d vars env tests = ((list_all (is_among vars) used ≡ true) × P env) ⊎ Contains tests d

due_fixed : (used : List VarId) (P : List Binding → Type 0) (d : Diff) (vars : List VarId) (env : List Binding) (due : List Diff) (v : VarId) (x : ℤ)
    → (list_all (is_among vars) used ≡ true → P env → P (fixed v x env)) → Due used P d vars env due → Due used P d (v ∷ vars) (fixed v x env) due
due_fixed used P d vars env due v x keeps (inl h) = inl (among_more vars used v h.0, keeps h.0 h.1)
due_fixed used P d vars env due v x keeps (inr c) = inr c

one_is : {X : Type 0} (e d : X) (k : ℕ) → k < 1 → slice_index_or (e ∷ []) k d ≡ d → e ≡ d
one_is e d zero l s = s
one_is e d (suc k) l s = absurd (omega arith)

due_tested : (a : Lists) (used : List VarId) (P : List Binding → Type 0) (d e : Diff) (vars : List VarId) (env : List Binding) (due : List Diff)
    → list_all (is_among vars) (uses (Test e)) ≡ true → is_true a env e ≡ true → (is_true a env d ≡ true → P env) → uses (Test d) ≡ used
    → Due used P d vars env (e ∷ due) → Due used P d vars env due
due_tested a used P d e vars env due known holds gives same (inl h) = inl h
due_tested a used P d e vars env due known holds gives same (inr c) = by (Contains-append_cases (e ∷ []) due d c)
  where
    by : Contains (e ∷ []) d ⊎ Contains due d → Due used P d vars env due
    by (inr later) = inr later
    by (inl here) =
        let is : e ≡ d = one_is e d here.0 here.1 here.2 in
        inl (
          subst (λ vs. list_all (is_among vars) vs ≡ true) same (subst (λ t. list_all (is_among vars) (uses (Test t)) ≡ true) is known),
          gives (subst (λ t. is_true a env t ≡ true) is holds),
        )

due_now : (used : List VarId) (P : List Binding → Type 0) (d : Diff) (vars : List VarId) (env : List Binding) → Due used P d vars env [] → P env
due_now used P d vars env (inl h) = h.1
due_now used P d vars env (inr c) = absurd (let l : c.0 < 0 = c.1 in omega arith)

-- The three facts.

abbrev pub IsLow : VarId → List Binding → Type 0
IsLow i env = pos 0 ≤ℤ value_in env i

abbrev pub AreApart : VarId → VarId → List Binding → Type 0
AreApart i j env = value_in env i <ℤ value_in env j

abbrev pub IsHigh : ℕ → VarId → List Binding → Type 0
IsHigh n j env = value_in env j <ℤ pos n

pub le_is : (x y : ℤ) → int_le x y ≡ true → x ≤ℤ y
le_is x y e = grind (arith, ints)

low_from : (a : Lists) (env : List Binding) (i : VarId) → is_true a env (from_zero i) ≡ true → IsLow i env
low_from a env i e =
    let zero_is : atom_value a env Zero ≡ pos 0 = search (rules, of_atom) in
    let i_is : atom_value a env (Var i) ≡ value_in env i = search (rules, of_atom) in
    let h : (atom_value a env Zero -ℤ atom_value a env (Var i)) ≤ℤ (pos 0 -ℤ pos 0) = le_is (atom_value a env Zero -ℤ atom_value a env (Var i)) (pos 0 -ℤ pos 0) e in
    omega (arith, ints, rw (zero_is, i_is) at h)

apart_from : (a : Lists) (env : List Binding) (i j : VarId) → is_true a env (one_below i j) ≡ true → AreApart i j env
apart_from a env i j e =
    let i_is : atom_value a env (Var i) ≡ value_in env i = search (rules, of_atom) in
    let j_is : atom_value a env (Var j) ≡ value_in env j = search (rules, of_atom) in
    let h : (atom_value a env (Var i) -ℤ atom_value a env (Var j)) ≤ℤ (pos 0 -ℤ pos 0 -ℤ pos 1) = le_is (atom_value a env (Var i) -ℤ atom_value a env (Var j)) (pos 0 -ℤ pos 0 -ℤ pos 1) e in
    omega (arith, ints, rw (i_is, j_is) at h)

high_from : (a : Lists) (env : List Binding) (j : VarId) → is_true a env (below_rows j) ≡ true → IsHigh a.n j env
high_from a env j e =
    let j_is : atom_value a env (Var j) ≡ value_in env j = search (rules, of_atom) in
    let n_is : atom_value a env N ≡ pos a.n = search (rules, of_atom) in
    let h : (atom_value a env (Var j) -ℤ atom_value a env N) ≤ℤ (pos 0 -ℤ pos 0 -ℤ pos 1) = le_is (atom_value a env (Var j) -ℤ atom_value a env N) (pos 0 -ℤ pos 0 -ℤ pos 1) e in
    omega (arith, ints, rw (j_is, n_is) at h)

low_uses : (i : VarId) → uses (Test (from_zero i)) ≡ i ∷ []
low_uses i = search (rules, of_atom)

apart_uses : (i j : VarId) → uses (Test (one_below i j)) ≡ i ∷ j ∷ []
apart_uses i j = search (rules, of_atom)

high_uses : (j : VarId) → uses (Test (below_rows j)) ≡ j ∷ []
high_uses j = search (rules, of_atom)

-- The pairs.

All-flat_map : {X Y : Type 0} (P : Y → Type 0) (f : X → List Y) (xs : List X) → ((x : X) → All P (f x)) → All P (flat_map f xs)
All-flat_map P f [] each = All-nil P
All-flat_map P f (x ∷ xs) each = All-append P (f x) (flat_map f xs) (each x) (All-flat_map P f xs each)

pub record AreDue (a : Lists) (i j : VarId) (vars : List VarId) (env : List Binding) (due : List Diff) : Type 0 where
  pub low : Due (i ∷ []) (IsLow i) (from_zero i) vars env due
  pub apart : Due (i ∷ j ∷ []) (AreApart i j) (one_below i j) vars env due
  pub high : Due (j ∷ []) (IsHigh a.n j) (below_rows j) vars env due

all_fixed : (a : Lists) (i j : VarId) (vars : List VarId) (env : List Binding) (due : List Diff) (v : VarId) (x : ℤ) → is_among vars v ≡ false → AreDue a i j vars env due → AreDue a i j (v ∷ vars) (fixed v x env) due
all_fixed a i j vars env due v x none d =
    let same : (u : VarId) → is_among vars u ≡ true → value_in env u ≡ value_in (fixed v x env) u = λ u has. sym (still v x env u (other_variable vars v u has none)) in
    let first : (us : List VarId) (u : VarId) → list_all (is_among vars) (u ∷ us) ≡ true → is_among vars u ≡ true = λ us u all. (and_parts (is_among vars u) (list_all (is_among vars) us) all).0 in
    let second : (u w : VarId) → list_all (is_among vars) (u ∷ w ∷ []) ≡ true → is_among vars w ≡ true = λ u w all. first [] w (and_parts (is_among vars u) (list_all (is_among vars) (w ∷ [])) all).1 in
    record {
      low = due_fixed (i ∷ []) (IsLow i) (from_zero i) vars env due v x (λ all h. subst (λ z. pos 0 ≤ℤ z) (same i (first [] i all)) h) d.low;
      apart = due_fixed (i ∷ j ∷ []) (AreApart i j) (one_below i j) vars env due v x (λ all h. subst (λ z. z <ℤ value_in (fixed v x env) j) (same i (first (j ∷ []) i all)) (subst (λ z. value_in env i <ℤ z) (same j (second i j all)) h)) d.apart;
      high = due_fixed (j ∷ []) (IsHigh a.n j) (below_rows j) vars env due v x (λ all h. subst (λ z. z <ℤ pos a.n) (same j (first [] j all)) h) d.high;
    }

all_tested : (a : Lists) (i j : VarId) (e : Diff) (vars : List VarId) (env : List Binding) (due : List Diff) → list_all (is_among vars) (uses (Test e)) ≡ true → is_true a env e ≡ true → AreDue a i j vars env (e ∷ due) → AreDue a i j vars env due
all_tested a i j e vars env due known holds d = record {
  low = due_tested a (i ∷ []) (IsLow i) (from_zero i) e vars env due known holds (low_from a env i) (low_uses i) d.low;
  apart = due_tested a (i ∷ j ∷ []) (AreApart i j) (one_below i j) e vars env due known holds (apart_from a env i j) (apart_uses i j) d.apart;
  high = due_tested a (j ∷ []) (IsHigh a.n j) (below_rows j) e vars env due known holds (high_from a env j) (high_uses j) d.high;
}

pub not_yet : (vars : List VarId) (v : VarId) → list_all (λ w. not (is_among vars w)) (v ∷ []) ≡ true → is_among vars v ≡ false
not_yet vars v e = not-true (is_among vars v) (and_parts (not (is_among vars v)) true e).0

earlier_after : (a : Lists) (i j : VarId) (before : List InspOp) (vars : List VarId) (env : List Binding) → AreFixedInOrder vars (before ++ Emit i j ∷ []) → flat_map emits before ≡ [] → AreDue a i j vars env (tests before) → All (IsEarlier a.n) (met a (before ++ Emit i j ∷ []) env)
earlier_after a i j [] vars env order once d =
    All-cons (IsEarlier a.n) (value_in env i, value_in env j) []
    (record {
      low = due_now (i ∷ []) (IsLow i) (from_zero i) vars env d.low;
      apart = due_now (i ∷ j ∷ []) (AreApart i j) (one_below i j) vars env d.apart;
      high = due_now (j ∷ []) (IsHigh a.n j) (below_rows j) vars env d.high;
    })
    (All-nil (IsEarlier a.n))
earlier_after a i j (Loop v lo hi ∷ before) vars env order once d =
    All-flat_map (IsEarlier a.n) (λ x. met a (before ++ Emit i j ∷ []) (fixed v x env)) (tried a env (Loop v lo hi))
    (λ x. earlier_after a i j before (v ∷ vars) (fixed v x env) order.2 once (all_fixed a i j vars env (tests before) v x (not_yet vars v order.1) d))
earlier_after a i j (Let v t ∷ before) vars env order once d =
    All-flat_map (IsEarlier a.n) (λ x. met a (before ++ Emit i j ∷ []) (fixed v x env)) (tried a env (Let v t))
    (λ x. earlier_after a i j before (v ∷ vars) (fixed v x env) order.2 once (all_fixed a i j vars env (tests before) v x (not_yet vars v order.1) d))
earlier_after a i j (Find v f plus t ∷ before) vars env order once d =
    All-flat_map (IsEarlier a.n) (λ x. met a (before ++ Emit i j ∷ []) (fixed v x env)) (tried a env (Find v f plus t))
    (λ x. earlier_after a i j before (v ∷ vars) (fixed v x env) order.2 once (all_fixed a i j vars env (tests before) v x (not_yet vars v order.1) d))
earlier_after a i j (Locate v p plus t ∷ before) vars env order once d =
    All-flat_map (IsEarlier a.n) (λ x. met a (before ++ Emit i j ∷ []) (fixed v x env)) (tried a env (Locate v p plus t))
    (λ x. earlier_after a i j before (v ∷ vars) (fixed v x env) order.2 once (all_fixed a i j vars env (tests before) v x (not_yet vars v order.1) d))
earlier_after a i j (Test e ∷ before) vars env order once d =
    known_or (is_true a env e) (λ b. All (IsEarlier a.n) (cond b (met a (before ++ Emit i j ∷ []) env) []))
    (λ holds. earlier_after a i j before vars env order.2 once (all_tested a i j e vars env (tests before) order.0 holds d))
    (λ fails. All-nil (IsEarlier a.n))
earlier_after a i j (Emit v w ∷ before) vars env order once d = absurd (cc)

pub plan_earlier : (a : Lists) (ops : List InspOp) → IsPlan ops → All (IsEarlier a.n) (met a ops [])
plan_earlier a ops plan =
    let i = plan.ends.0 in
    let j = plan.ends.1 in
    let e = plan.ends.2 in
    subst (λ o. All (IsEarlier a.n) (met a o [])) (sym e.last)
    (earlier_after a i j e.before [] [] (subst (AreFixedInOrder []) e.last plan.in_order) e.once (record { low = inr e.low; apart = inr e.apart; high = inr e.high }))
