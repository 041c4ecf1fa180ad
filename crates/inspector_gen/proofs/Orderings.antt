-- What holds along an order holds along the order in which its unknowns are taken one by one.
use Rattle.std.proofs.Common.{◌≡◌, ℕ, zero, suc, ◌<◌, Bool, true, false, ◌||◌, not, Option, Some, None, List, [], ◌∷◌, ◌++◌, length, get_or, slice_get, take, drop, refl, sym, ap, ◌∙◌, subst, arith}
use Rattle.std.specs.Option.{unwrap_or}
use Rattle.std.specs.List.{position, remove}
use Rattle.std.proofs.lemmas.Bool.{false≢true}
use Rattle.std.proofs.lemmas.Option.{same_Some}
use Rattle.std.proofs.lemmas.List.{length-map}
use Rattle.std.proofs.lemmas.List.Edits.{length-remove}
use Rattle.std.proofs.lemmas.List.Quantifiers.{position-Some}
use Rattle.loop_core.specs.declared.nest.VarId.{VarId}
use Rattle.loop_core.specs.Binding.{same_variable}
use Rattle.uf_constraints.specs.declared.system.Diff.{Diff}
use Rattle.inspector_run.specs.IsPlan.{atom_vars, is_among}
use Rattle.inspector_gen.specs.declared.kind.Kind.{Kind}
use Rattle.inspector_gen.specs.declared.kind.Kind.TheVariants.{Looped}
use Rattle.inspector_gen.specs.declared.unknown.Unknown.{Unknown}
use Rattle.inspector_gen.specs.Plans.{is_looped, may_test}
use Rattle.inspector_gen.specs.Quick.{kinds_after, next_place, then_others, one_by_one}
use Rattle.inspector_gen.proofs.Lists.{known_or}
use Rattle.inspector_gen.proofs.Along.{variable_itself, variable_is, among_push, Along, IsFresh, CanTest, may_test_parts, may_test_from}
use Rattle.inspector_gen.proofs.Scoped.{or_left, all_by}

-- Variables among others.

-- each of these variables is among those
abbrev pub AreAmong : List VarId → List VarId → Type 0
AreAmong l m = (v : VarId) → is_among l v ≡ true → is_among m v ≡ true

-- the same variables
abbrev pub AreAlike : List VarId → List VarId → Type 0
AreAlike l m = (v : VarId) → is_among l v ≡ is_among m v

or_more : (s t r : Bool) → (s ≡ true → t ≡ true) → (s || r) ≡ true → (t || r) ≡ true
or_more true t r f h = or_left t r (f refl)
or_more false true r f h = refl
or_more false false r f h = h

among_more : (l m : List VarId) (w : VarId) → AreAmong l m → AreAmong (l ++ w ∷ []) (m ++ w ∷ [])
among_more l m w f v h =
    among_push m w v ∙ or_more (is_among l v) (is_among m v) (same_variable w v || false) (f v) (sym (among_push l w v) ∙ h)

alike_more : (l m : List VarId) (w : VarId) → AreAlike l m → AreAlike (l ++ w ∷ []) (m ++ w ∷ [])
alike_more l m w f v = among_push l w v ∙ ap (λ b. b || (same_variable w v || false)) (f v) ∙ sym (among_push m w v)

or_swap : (a p q : Bool) → ((a || (p || false)) || (q || false)) ≡ ((a || (q || false)) || (p || false))
or_swap true p q = refl
or_swap false true true = refl
or_swap false true false = refl
or_swap false false true = refl
or_swap false false false = refl

-- two variables at the end, either way round
swapped : (l : List VarId) (x y : VarId) → AreAlike ((l ++ x ∷ []) ++ y ∷ []) ((l ++ y ∷ []) ++ x ∷ [])
swapped l x y v =
    among_push (l ++ x ∷ []) y v
    ∙ ap (λ b. b || (same_variable y v || false)) (among_push l x v)
    ∙ or_swap (is_among l v) (same_variable x v) (same_variable y v)
    ∙ sym (ap (λ b. b || (same_variable x v || false)) (among_push l y v))
    ∙ sym (among_push (l ++ y ∷ []) x v)

alike_among : (l m : List VarId) → AreAlike l m → AreAmong l m
alike_among l m f v h = sym (f v) ∙ h

-- a constraint that can be tested can be tested where more are fixed
pub may_test_more : (l m : List VarId) (d : Diff) → AreAmong l m → may_test l d ≡ true → may_test m d ≡ true
may_test_more [] m d among h = absurd (false≢true h)
may_test_more (v ∷ vs) m d among h =
    let t = may_test_parts (v ∷ vs) d h in
    let own : is_among (v ∷ vs) v ≡ true = or_left (same_variable v v) (is_among vs v) (variable_itself v) in
    may_test_from m v d (among v own)
    (all_by (is_among (v ∷ vs)) (is_among m) (atom_vars d.a) among t.0)
    (all_by (is_among (v ∷ vs)) (is_among m) (atom_vars d.b) among t.1)

pub can_test_more : (base : List Diff) (l m : List VarId) → AreAmong l m → CanTest base l → CanTest base m
can_test_more base l m among h d c = may_test_more l m d among (h d c)

-- Along an order, from other variables on.

module _ (R : List VarId → List VarId → Type 0) (push : (l m : List VarId) (w : VarId) → R l m → R (l ++ w ∷ []) (m ++ w ∷ []))
    (B : List VarId → Unknown → Type 0) (E : List VarId → Type 0)
    (each : (l m : List VarId) (u : Unknown) → R l m → B l u → B m u) (last : (l m : List VarId) → R l m → E l → E m) where
  along_to : (l m : List VarId) (us : List Unknown) → R l m → Along B E l us → Along B E m us
  along_to l m [] r h = last l m r h
  along_to l m (u ∷ us) r h = (each l m u r h.0, along_to (l ++ u.var ∷ []) (m ++ u.var ∷ []) us (push l m u.var r) h.1)

-- Without an unknown, which comes before the others instead.

module _ (B : List VarId → Unknown → Type 0) (E : List VarId → Type 0)
    (each : (l m : List VarId) (u : Unknown) → AreAmong l m → B l u → B m u) (last : (l m : List VarId) → AreAmong l m → E l → E m) where
  pub along_without : (l : List VarId) (b : List Unknown) (u : Unknown) (c : List Unknown) → Along B E l (b ++ u ∷ c) → Along B E (l ++ u.var ∷ []) (b ++ c)
  along_without l [] u c h = h.1
  along_without l (x ∷ b) u c h =
      let more : AreAmong l (l ++ u.var ∷ []) = λ v i. among_push l u.var v ∙ or_left (is_among l v) (same_variable u.var v || false) i in (
        each l (l ++ u.var ∷ []) x more h.0,
        along_to AreAmong among_more B E each last ((l ++ x.var ∷ []) ++ u.var ∷ []) ((l ++ u.var ∷ []) ++ x.var ∷ []) (b ++ c)
            (alike_among ((l ++ x.var ∷ []) ++ u.var ∷ []) ((l ++ u.var ∷ []) ++ x.var ∷ []) (swapped l x.var u.var))
            (along_without (l ++ x.var ∷ []) b u c h.1),
      )

neither : (s t : Bool) → (s || (t || false)) ≡ false → (s ≡ false) × (t ≡ false)
neither true t h = absurd (cc)
neither false true h = absurd (cc)
neither false false h = (refl, refl)

both_false : (s t : Bool) → s ≡ false → t ≡ false → (s || (t || false)) ≡ false
both_false s t h g = λ i. h i || (g i || false)

other_way : (x y : VarId) → same_variable x y ≡ false → same_variable y x ≡ false
other_way x y h =
    known_or (same_variable y x) (λ b. b ≡ false)
    (λ e. absurd (false≢true (sym h ∙ ap (λ z. same_variable x z) (variable_is y x e) ∙ variable_itself x)))
    (λ e. refl)

module _ (E : List VarId → Type 0) (last : (l m : List VarId) → AreAmong l m → E l → E m) where
  fresh_alike : (l m : List VarId) (u : Unknown) → AreAlike l m → IsFresh l u → IsFresh m u
  fresh_alike l m u f h = sym (f u.var) ∙ h

  -- unknowns that stand once
  pub fresh_without : (l : List VarId) (b : List Unknown) (u : Unknown) (c : List Unknown) → Along IsFresh E l (b ++ u ∷ c) → IsFresh l u × Along IsFresh E (l ++ u.var ∷ []) (b ++ c)
  fresh_without l [] u c h = h
  fresh_without l (x ∷ b) u c h =
      let r = fresh_without (l ++ x.var ∷ []) b u c h.1 in
      let two = neither (is_among l u.var) (same_variable x.var u.var) (sym (among_push l x.var u.var) ∙ r.0) in
      let apart : is_among (l ++ u.var ∷ []) x.var ≡ false =
      among_push l u.var x.var ∙ both_false (is_among l x.var) (same_variable u.var x.var) h.0 (other_way x.var u.var two.1) in (
        two.0,
        (
          apart,
          along_to AreAlike alike_more IsFresh E fresh_alike (λ k m f. last k m (alike_among k m f))
              ((l ++ x.var ∷ []) ++ u.var ∷ []) ((l ++ u.var ∷ []) ++ x.var ∷ []) (b ++ c) (swapped l x.var u.var) r.1,
        ),
      )

-- One by one.

split_at : (us : List Unknown) (k : ℕ) (u : Unknown) → slice_get us k ≡ Some u → us ≡ take k us ++ u ∷ drop (suc k) us
split_at [] k u e = absurd (cc)
split_at (x ∷ us) zero u e = ap (λ y. y ∷ us) (same_Some x u e)
split_at (x ∷ us) (suc k) u e = ap (λ l. x ∷ l) (split_at us k u e)

none_within : (us : List Unknown) (k : ℕ) → slice_get us k ≡ None → k < length us → ⊥
none_within [] k e lt = omega arith
none_within (x ∷ us) zero e lt = cc
none_within (x ∷ us) (suc k) e lt = none_within us k e (omega arith)

module _ (kind : List VarId → VarId → Kind) where
  kind_at : (taken : List VarId) (us : List Unknown) (k : ℕ) (u : Unknown) (d : Kind) → slice_get us k ≡ Some u → get_or (kinds_after kind taken us) k d ≡ kind taken u.var
  kind_at taken [] k u d e = absurd (cc)
  kind_at taken (x ∷ us) zero u d e = ap (λ y. kind taken y.var) (same_Some x u e)
  kind_at taken (x ∷ us) (suc k) u d e = kind_at taken us k u d e

  -- the next one is there, and where it is looped it is the first
  pub next_is : (taken : List VarId) (left : List Unknown) → 0 < length left
      → (next_place kind taken left < length left) × ((u : Unknown) → slice_get left (next_place kind taken left) ≡ Some u → kind taken u.var ≡ Looped → next_place kind taken left ≡ 0)
  next_is taken left some = by (position known kinds) refl
    where
      known : Kind → Bool
      known k = not (is_looped k)

      kinds : List Kind
      kinds = kinds_after kind taken left

      by : (o : Option ℕ) → position known kinds ≡ o
          → (unwrap_or o 0 < length left) × ((u : Unknown) → slice_get left (unwrap_or o 0) ≡ Some u → kind taken u.var ≡ Looped → unwrap_or o 0 ≡ 0)
      by None e = (some, λ u is looped. refl)
      by (Some k) e =
          let t = position-Some known kinds k Looped e in
          let long : length kinds ≡ length left = length-map left (λ (u : Unknown). kind taken u.var) in (
            (let lt = t.0 in omega (arith, lt, long)),
            λ u is looped. absurd (false≢true (sym (ap known (kind_at taken left k u Looped is ∙ looped)) ∙ t.1)),
          )

  module _ (S : List VarId → List Unknown → Type 0) (C : List VarId → Unknown → Type 0) (E : List VarId → Type 0)
      (step : (taken : List VarId) (b : List Unknown) (u : Unknown) (c : List Unknown) → S taken (b ++ u ∷ c) → S (taken ++ u.var ∷ []) (b ++ c))
      (choose : (taken : List VarId) (b : List Unknown) (u : Unknown) (c : List Unknown) → S taken (b ++ u ∷ c) → (kind taken u.var ≡ Looped → b ≡ []) → C taken u)
      (end : (taken : List VarId) → S taken [] → E taken) where
    abbrev Turned : ℕ → Type 0
    Turned n = (taken : List VarId) (left : List Unknown) → length left ≡ n → S taken left → Along C E taken (one_by_one kind n taken left)

    turn : (n : ℕ) (taken : List VarId) (left : List Unknown) → length left ≡ suc n → S taken left → Turned n → Along C E taken (one_by_one kind (suc n) taken left)
    turn n taken left long s rest = by (slice_get left place) refl
      where
        place : ℕ
        place = next_place kind taken left

        next : (place < length left) × ((u : Unknown) → slice_get left place ≡ Some u → kind taken u.var ≡ Looped → place ≡ 0)
        next = next_is taken left (omega (arith, long))

        fewer : length (remove left place) ≡ n
        fewer = let less = length-remove left place next.0 in omega (arith, long, less)

        by : (o : Option Unknown) → slice_get left place ≡ o → Along C E taken (then_others (one_by_one kind n) taken o (remove left place))
        by None is = absurd (none_within left place is next.0)
        by (Some u) is =
            let state = subst (S taken) (split_at left place u is) s in (
              choose taken (take place left) u (drop (suc place) left) state (λ looped. ap (λ k. take k left) (next.1 u is looped)),
              rest (taken ++ u.var ∷ []) (remove left place) fewer (step taken (take place left) u (drop (suc place) left) state),
            )

    pub turned_along : (n : ℕ) → Turned n
    turned_along zero taken [] long s = end taken s
    turned_along zero taken (u ∷ us) long s = absurd (omega (arith, long))
    turned_along (suc n) taken left long s = turn n taken left long s (turned_along n)

  long_turn : (n : ℕ) (taken : List VarId) (left : List Unknown) → length left ≡ suc n → ((after : List VarId) (us : List Unknown) → length us ≡ n → length (one_by_one kind n after us) ≡ n)
      → length (one_by_one kind (suc n) taken left) ≡ suc n
  long_turn n taken left long rest = by (slice_get left place) refl
    where
      place : ℕ
      place = next_place kind taken left

      within : place < length left
      within = (next_is taken left (omega (arith, long))).0

      fewer : length (remove left place) ≡ n
      fewer = let less = length-remove left place within in omega (arith, long, less)

      by : (o : Option Unknown) → slice_get left place ≡ o → length (then_others (one_by_one kind n) taken o (remove left place)) ≡ suc n
      by None is = absurd (none_within left place is within)
      by (Some u) is = ap suc (rest (taken ++ u.var ∷ []) (remove left place) fewer)

  -- as many as there were
  pub turned_length : (n : ℕ) (taken : List VarId) (left : List Unknown) → length left ≡ n → length (one_by_one kind n taken left) ≡ n
  turned_length zero taken left long = refl
  turned_length (suc n) taken left long = long_turn n taken left long (turned_length n)
