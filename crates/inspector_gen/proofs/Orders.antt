-- Lemmas on kinds and operations along an order.
use Rattle.std.proofs.Common.{◌≡◌, ℕ, zero, suc, ◌+◌, ◌<◌, List, [], ◌∷◌, ◌++◌, length, get_or, drop, slice_get, Option, Some, None, refl, sym, ap, subst, ◌∙◌, add-one, arith, append_assoc, append-nil}
use Rattle.std.specs.List.{remove}
use Rattle.loop_core.specs.declared.nest.VarId.{VarId}
use Rattle.uf_constraints.specs.declared.system.Diff.{Diff}
use Rattle.inspector_run.specs.declared.plan.InspOp.{InspOp}
use Rattle.inspector_gen.specs.declared.kind.Kind.{Kind}
use Rattle.inspector_gen.specs.declared.unknown.Unknown.{Unknown}
use Rattle.inspector_gen.specs.Kinds.{first_of, or_looped}
use Rattle.inspector_gen.specs.Plans.{kinds_from, operation, steps, tests_due}
use Rattle.inspector_gen.specs.Quick.{kinds_after, next_place, then_others, one_by_one}

-- the first of two lists one after another

pub or_some : (xs ys : List Kind) (o : Option Kind) (kind : Kind) → o ≡ first_of xs → o ≡ Some kind → kind ≡ or_looped (first_of (xs ++ ys))
or_some [] ys o kind e is = let no : None ≡ Some kind = sym e ∙ is in absurd (cc)
or_some (x ∷ xs) ys o kind e is = ap or_looped (sym is ∙ e)

pub or_none : (xs ys : List Kind) (o : Option Kind) → o ≡ first_of xs → o ≡ None → or_looped (first_of ys) ≡ or_looped (first_of (xs ++ ys))
or_none [] ys o e is = refl
or_none (x ∷ xs) ys o e is = let no : Some x ≡ None = sym e ∙ is in absurd (cc)

-- the variable at a place, and those after it

pub kinds_front : (kind : List VarId → VarId → Kind) (earlier : List VarId) (us : List Unknown) (k : ℕ) (d : Unknown) → k < length us
    → kinds_from kind earlier (drop k us) ≡ kind earlier (get_or us k d).var ∷ kinds_from kind (earlier ++ (get_or us k d).var ∷ []) (drop (suc k) us)
kinds_front kind earlier [] k d lt = absurd (omega arith)
kinds_front kind earlier (u ∷ us) zero d lt = refl
kinds_front kind earlier (u ∷ us) (suc k) d lt = kinds_front kind earlier us k d (omega arith)

pub kinds_step : (kind : List VarId → VarId → Kind) (us : List Unknown) (k : ℕ) (d : Unknown) (earlier after : List VarId) (ks more : List Kind) (x : Kind)
    → k < length us → d ≡ get_or us k d → x ≡ kind earlier d.var → more ≡ ks ++ x ∷ [] → after ≡ earlier ++ d.var ∷ []
    → more ++ kinds_from kind after (drop (k + 1) us) ≡ ks ++ kinds_from kind earlier (drop k us)
kinds_step kind us k d earlier after ks more x lt is here made fixed =
    let rest = kinds_from kind (earlier ++ d.var ∷ []) (drop (suc k) us) in
    let front : kinds_from kind earlier (drop k us) ≡ kind earlier d.var ∷ rest =
    subst (λ u. kinds_from kind earlier (drop k us) ≡ kind earlier u.var ∷ kinds_from kind (earlier ++ u.var ∷ []) (drop (suc k) us)) (sym is) (kinds_front kind earlier us k d lt) in
    (λ i. made i ++ kinds_from kind (fixed i) (drop (add-one k i) us))
    ∙ append_assoc ks (x ∷ []) rest
    ∙ ap (λ y. ks ++ y ∷ rest) here
    ∙ ap (λ l. ks ++ l) (sym front)

pub steps_front : (kind : List VarId → VarId → Kind) (base : List Diff) (earlier : List VarId) (us : List Unknown) (k : ℕ) (d : Unknown) → k < length us
    → steps kind base earlier (drop k us)
    ≡ operation earlier (get_or us k d) (kind earlier (get_or us k d).var) ∷ tests_due base earlier (earlier ++ (get_or us k d).var ∷ [])
    ++ steps kind base (earlier ++ (get_or us k d).var ∷ []) (drop (suc k) us)
steps_front kind base earlier [] k d lt = absurd (omega arith)
steps_front kind base earlier (u ∷ us) zero d lt = refl
steps_front kind base earlier (u ∷ us) (suc k) d lt = steps_front kind base earlier us k d (omega arith)

pub steps_step : (kind : List VarId → VarId → Kind) (base : List Diff) (us : List Unknown) (k : ℕ) (d : Unknown) (earlier after : List VarId) (ops more : List InspOp)
    → k < length us → d ≡ get_or us k d → after ≡ earlier ++ d.var ∷ []
    → more ≡ ops ++ operation earlier d (kind earlier d.var) ∷ tests_due base earlier (earlier ++ d.var ∷ [])
    → more ++ steps kind base after (drop (k + 1) us) ≡ ops ++ steps kind base earlier (drop k us)
steps_step kind base us k d earlier after ops more lt is fixed made =
    let here = operation earlier d (kind earlier d.var) ∷ tests_due base earlier (earlier ++ d.var ∷ []) in
    let rest = steps kind base (earlier ++ d.var ∷ []) (drop (suc k) us) in
    let front : steps kind base earlier (drop k us) ≡ here ++ rest =
    subst (λ u. steps kind base earlier (drop k us) ≡ operation earlier u (kind earlier u.var) ∷ tests_due base earlier (earlier ++ u.var ∷ []) ++ steps kind base (earlier ++ u.var ∷ []) (drop (suc k) us)) (sym is) (steps_front kind base earlier us k d lt) in
    (λ i. made i ++ steps kind base (fixed i) (drop (add-one k i) us))
    ∙ append_assoc ops here rest
    ∙ ap (λ l. ops ++ l) (sym front)

-- the kinds of those that are left, all after the same

after_front : (kind : List VarId → VarId → Kind) (taken : List VarId) (us : List Unknown) (k : ℕ) (d : Unknown) → k < length us
    → kinds_after kind taken (drop k us) ≡ kind taken (get_or us k d).var ∷ kinds_after kind taken (drop (suc k) us)
after_front kind taken [] k d lt = absurd (omega arith)
after_front kind taken (u ∷ us) zero d lt = refl
after_front kind taken (u ∷ us) (suc k) d lt = after_front kind taken us k d (omega arith)

pub after_step : (kind : List VarId → VarId → Kind) (taken : List VarId) (us : List Unknown) (k : ℕ) (d : Unknown) (ks more : List Kind) (x : Kind)
    → k < length us → d ≡ get_or us k d → x ≡ kind taken d.var → more ≡ ks ++ x ∷ []
    → more ++ kinds_after kind taken (drop (k + 1) us) ≡ ks ++ kinds_after kind taken (drop k us)
after_step kind taken us k d ks more x lt is here made =
    let rest = kinds_after kind taken (drop (suc k) us) in
    let front : kinds_after kind taken (drop k us) ≡ kind taken d.var ∷ rest =
    subst (λ u. kinds_after kind taken (drop k us) ≡ kind taken u.var ∷ rest) (sym is) (after_front kind taken us k d lt) in
    (λ i. made i ++ kinds_after kind taken (drop (add-one k i) us))
    ∙ append_assoc ks (x ∷ []) rest
    ∙ ap (λ y. ks ++ y ∷ rest) here
    ∙ ap (λ l. ks ++ l) (sym front)

-- one by one

pub turn_step : (kind : List VarId → VarId → Kind) (n : ℕ) (taken after : List VarId) (left others order more : List Unknown) (place : ℕ) (next : Unknown)
    → place ≡ next_place kind taken left → slice_get left place ≡ Some next → others ≡ remove left place → after ≡ taken ++ next.var ∷ [] → more ≡ order ++ next ∷ []
    → more ++ one_by_one kind n after others ≡ order ++ one_by_one kind (suc n) taken left
turn_step kind n taken after left others order more place next here is rest fixed made =
    let tail = one_by_one kind n (taken ++ next.var ∷ []) (remove left place) in
    (λ i. made i ++ one_by_one kind n (fixed i) (rest i))
    ∙ append_assoc order (next ∷ []) tail
    ∙ sym (ap (λ o. order ++ then_others (one_by_one kind n) taken o (remove left place)) is)
    ∙ ap (λ k. order ++ then_others (one_by_one kind n) taken (slice_get left k) (remove left k)) here

pub turn_end : (kind : List VarId → VarId → Kind) (taken : List VarId) (left order : List Unknown) → length left ≡ 0 → order ≡ order ++ one_by_one kind (length left) taken left
turn_end kind taken left order none =
    sym (append-nil order) ∙ sym (ap (λ n. order ++ one_by_one kind n taken left) none)
