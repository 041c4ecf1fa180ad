-- Equal entries stand beside each other in a sorted list of entries and places.
use Rattle.std.proofs.Common.{ℕ, zero, suc, ℤ, ◌≡◌, inl, inr, ◌<◌, ◌≤◌, ◌+◌, Option, Some, None, List, [], ◌∷◌, ◌++◌, length, sym, ap, ◌∙◌, subst, refl, arith}
use Rattle.std.specs.List.{All, Contains}
use Rattle.std.specs.List.Sorted.{IsPermutation}
use Rattle.std.proofs.lemmas.Int.{ints}
use Rattle.std.proofs.lemmas.List.{get_or_default}
use Rattle.std.proofs.lemmas.List.Elements.{All-push, Contains-push, Contains-append_left}
use Rattle.std.proofs.lemmas.List.Sorted.{All-permutation, Contains-permutation}
use Rattle.std.proofs.Math.Nat.{eq-or-lt_of_le}
use Rattle.std.proofs.Math.Decide.{dec_lt}
use Rattle.wave_base.specs.declared.types.ArrayId.{ArrayId}
use Rattle.loop_core.specs.declared.decl.PropKind.TheVariants.{Injective}
use Rattle.loop_core.specs.Lists.{Lists, list_of}
use Rattle.index_props.specs.Meanings.{at, InjectiveList}
use Rattle.index_props.specs.Places.{SameBefore, LeastIn}
use Rattle.prop_check.specs.declared.injective.Held.{Held}
use Rattle.prop_check.specs.declared.places.Places.{Places}
use Rattle.prop_check.specs.Finds.{Shows}
use Rattle.prop_check.specs.Twins.{nothing, held, IsHeld, HoldsAll, IsNotAfter, IsInOrder, HasTwin, FirstTwins}
use Rattle.prop_check.proofs.Holds as holds

abbrev pub Begun : List ℤ → ℕ → List Held → Type 0
Begun f n es = All (IsHeld f) es × ((k : ℕ) → k < n → Contains es (record { value = at f k; place = k }))

pub pushed : (f : List ℤ) (n : ℕ) (old new : List Held) (v : ℤ) → n < length f → v ≡ at f n → Begun f n old → new ≡ old ++ record { value = v; place = n } ∷ [] → Begun f (n + 1) new
pushed f n old new v lt is begun more =
    let here : Held = record { value = v; place = n } in
    let all : All (IsHeld f) (old ++ here ∷ []) = All-push (IsHeld f) old here begun.0 (lt, is) in
    let each : (k : ℕ) → k < n + 1 → Contains (old ++ here ∷ []) (record { value = at f k; place = k }) =
    λ k kn. elim (dec_lt k n) [
      | yes l ↦ Contains-append_left old (here ∷ []) (record { value = at f k; place = k }) (begun.1 k l)
      | no nl ↦
          let last : n ≡ k = grind (arith, kn, nl) in
          subst (λ m. Contains (old ++ here ∷ []) (record { value = at f m; place = m })) last
          (subst (λ w. Contains (old ++ here ∷ []) (record { value = w; place = n })) is (Contains-push old here))
    ] in
    subst (Begun f (n + 1)) (sym more) (all, each)

pub moved : (f : List ℤ) (es new : List Held) → HoldsAll f es → IsPermutation es new → HoldsAll f new
moved f es new x p = record {
  only = All-permutation (IsHeld f) es new p x.only;
  each = λ k lt. Contains-permutation es new (record { value = at f k; place = k }) p (x.each k lt);
}

then : (x y z : Held) → IsNotAfter x y → IsNotAfter y z → IsNotAfter x z
then x y z (inl a) (inl b) = inl (omega (arith, ints))
then x y z (inl a) (inr b) = let e = b.0 in inl (omega (arith, ints))
then x y z (inr a) (inl b) = let e = a.0 in inl (omega (arith, ints))
then x y z (inr a) (inr b) = inr (a.0 ∙ b.0, omega arith)

-- what stands between equal values is equal to them
tight : (x y z : Held) → IsNotAfter x y → IsNotAfter y z → x.value ≡ z.value → (y.value ≡ z.value) × (y.place ≤ z.place)
tight x y z (inl a) (inl b) e = absurd (omega (arith, ints))
tight x y z (inl a) (inr b) e = let d = b.0 in absurd (omega (arith, ints))
tight x y z (inr a) (inl b) e = let d = a.0 in absurd (omega (arith, ints))
tight x y z (inr a) (inr b) e = b

-- equal values in order have their places in order
places_order : (x y : Held) → IsNotAfter x y → x.value ≡ y.value → x.place ≤ y.place
places_order x y (inl a) e = absurd (omega (arith, ints))
places_order x y (inr a) e = a.1

module _ (f : List ℤ) (es : List Held) (is : HoldsAll f es) (up : IsInOrder es) where
  next : (j : ℕ) → suc j < length es → IsNotAfter (held es j) (held es (suc j))
  next j lt = subst (λ n. IsNotAfter (held es j) (held es n)) (omega arith) (up j (omega arith))

  far : (i : ℕ) (j : ℕ) → i ≤ j → j < length es → IsNotAfter (held es i) (held es j)
  far i zero le lt = let same : i ≡ 0 = omega arith in rw same (inr (refl, omega arith))
  far i (suc j) le lt = elim (eq-or-lt_of_le le) [
    | inl e ↦ rw e (inr (refl, omega arith))
    | inr l ↦ then (held es i) (held es j) (held es (suc j)) (far i j (omega arith) (omega arith)) (next j lt)
  ]

  -- between equal values at two places of the list stand twins
  climb : (x : ℕ) (y : ℕ) → x < y → y < length es → (held es x).value ≡ (held es y).value → (held es x).place < (held es y).place → (k : ℕ) × HasTwin es k × ((held es (k + 1)).place ≤ (held es y).place)
  climb x zero l lt v p = absurd (omega (arith, l))
  climb x (suc z) l lt v p =
      let same : suc z ≡ z + 1 = omega arith in
      let mid = tight (held es x) (held es z) (held es (suc z)) (far x z (omega arith) (omega arith)) (next z lt) v in
      elim (dec_lt (held es z).place (held es (suc z)).place) [
        | yes here ↦
            (z, (omega arith, subst (λ n. (held es z).value ≡ (held es n).value) same mid.0, subst (λ n. (held es z).place < (held es n).place) same here), subst (λ n. (held es n).place ≤ (held es (suc z)).place) same (omega arith))
        | no above ↦
            let le = mid.1 in
            let level : (held es z).place ≡ (held es (suc z)).place = grind (arith, le, above) in
            elim (dec_lt x z) [
              | yes xz ↦
                  let r = climb x z xz (omega arith) (v ∙ sym mid.0) (omega (arith, p, level)) in
                  (r.0, r.1, omega (arith, r.2, level))
              | no xz ↦
                  let e : x ≡ z = grind (arith, l, xz) in
                  absurd (omega (arith, p, level, ap (λ n. (held es n).place) e))
            ]
      ]

  where_is : (k : ℕ) → k < length f → (x : ℕ) × (x < length es) × (held es x ≡ record { value = at f k; place = k })
  where_is k lt =
      let here = is.each k lt in
      (here.0, here.1, get_or_default es here.0 nothing (record { value = at f k; place = k }) here.1 ∙ here.2)

  complete : (b a : ℕ) → SameBefore f b a → (k : ℕ) × HasTwin es k × ((held es (k + 1)).place ≤ b)
  complete b a h =
      let ab = h.0 in
      let x = where_is a (omega (arith, ab, h.1)) in
      let y = where_is b h.1 in
      let xp : (held es x.0).place ≡ a = ap (λ n. n.place) x.2 in
      let yp : (held es y.0).place ≡ b = ap (λ n. n.place) y.2 in
      let v : (held es x.0).value ≡ (held es y.0).value = ap (λ n. n.value) x.2 ∙ h.2 ∙ sym (ap (λ n. n.value) y.2) in
      elim (dec_lt x.0 y.0) [
        | yes l ↦
            let r = climb x.0 y.0 l y.1 v (omega (arith, xp, yp, ab)) in
            (r.0, r.1, omega (arith, r.2, yp))
        | no nl ↦
            let le = places_order (held es y.0) (held es x.0) (far y.0 x.0 (grind (arith, nl)) x.1) (sym v) in
            absurd (omega (arith, le, xp, yp, ab))
      ]

  sound : (k : ℕ) → HasTwin es k → SameBefore f (held es (k + 1)).place (held es k).place
  sound k t =
      let lt = t.0 in
      let x = is.only k nothing (omega (arith, lt)) in
      let y = is.only (k + 1) nothing lt in
      (t.2, y.0, sym x.1 ∙ t.1 ∙ y.1)

  pub none_holds : FirstTwins es (length es) None → InjectiveList f
  none_holds none = holds.injective f (λ b a h. let r = complete b a h in let lt = r.1.0 in none r.0 (omega (arith, lt)) r.1)

  pub some_fails : (x : Places) → FirstTwins es (length es) (Some x) → LeastIn (SameBefore f) x.second x.first
  some_fails x h =
      let k = h.0.0 in
      let first : x.first ≡ (held es k).place = ap (λ p. p.first) h.0.2 in
      let second : x.second ≡ (held es (k + 1)).place = ap (λ p. p.second) h.0.2 in
      let here : SameBefore f x.second x.first = rw first (rw second (sound k h.0.1)) in
      let least : (b a : ℕ) → SameBefore f b a → x.second ≤ b = λ b a s.
      let r = complete b a s in
      let lt = r.1.0 in
      let le = h.1 r.0 (omega (arith, lt)) r.1 in
      omega (arith, le, r.2) in (
        record { holds = (x.first, here); least = λ b lt s. let le = least b s.0 s.1 in omega (arith, le, lt) },
        record {
          holds = here;
          least = λ a lt s.
              let before = here.0 in
              let inside = here.1 in
              let le = least x.first a (lt, omega (arith, before, inside), s.2 ∙ sym here.2) in
              omega (arith, le, before);
        },
      )

-- what the sorted list shows of the array
pub shown : (a : Lists) (f : ArrayId) (old es : List Held) (r : Option Places) → HoldsAll (list_of a.lists f) old → IsPermutation old es → IsInOrder es → FirstTwins es (length es) r → Shows a (Injective f) r
shown a f old es None x p up h = none_holds (list_of a.lists f) es (moved (list_of a.lists f) old es x p) up h
shown a f old es (Some r) x p up h = some_fails (list_of a.lists f) es (moved (list_of a.lists f) old es x p) up r h
