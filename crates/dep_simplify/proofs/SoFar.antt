-- The verdicts so far stay what they are when one more is added.
use Rattle.std.proofs.Common.{ℕ, zero, suc, ◌+◌, ◌<◌, ◌≤◌, ◌≡◌, ◌⊎◌, inl, inr, arith, refl, sym, ◌∙◌, subst, ap, List, [], ◌∷◌, ◌++◌, length, slice_get, Option, Some, None}
use Rattle.std.proofs.lemmas.Option.{slice_get_within, same_Some}
use Rattle.std.proofs.lemmas.List.{length_push}
use Rattle.loop_core.specs.declared.nest.Nest.{Nest}
use Rattle.uf_constraints.specs.declared.system.Relation.{Relation}
use Rattle.uf_constraints.specs.Relations.{relations}
use Rattle.index_props.specs.Places.{IsLeast}
use Rattle.dep_simplify.specs.declared.verdict.Verdict.{Verdict}
use Rattle.dep_simplify.specs.declared.verdict.Verdict.TheVariants.{Dropped, Covered, Kept}
use Rattle.dep_simplify.specs.Ready.{IsNext, AreSoFar}
use Rattle.dep_simplify.specs.Systems.{IsDropped, Covers}
use Rattle.dep_simplify.specs.Verdicts.{IsCover, IsVerdict, IsCertified, AreVerdicts}

-- Lists that grow.

pub stays : {X : Type 0} (xs : List X) (y x : X) (j : ℕ) → slice_get xs j ≡ Some x → slice_get (xs ++ y ∷ []) j ≡ Some x
stays [] y x j h = absurd (cc)
stays (z ∷ xs) y x zero h = h
stays (z ∷ xs) y x (suc j) h = stays xs y x j h

pub cases : {X : Type 0} (xs : List X) (y x : X) (j : ℕ) → slice_get (xs ++ y ∷ []) j ≡ Some x → (slice_get xs j ≡ Some x) ⊎ ((j ≡ length xs) × (y ≡ x))
cases [] y x zero h = inr (refl, same_Some y x h)
cases [] y x (suc j) h = absurd (cc)
cases (z ∷ xs) y x zero h = inl h
cases (z ∷ xs) y x (suc j) h = elim (cases xs y x j h) [ inl g ↦ inl g | inr p ↦ inr (ap suc p.0, p.1) ]

pub some_at : {X : Type 0} (xs : List X) (k : ℕ) → k < length xs → (x : X) × (slice_get xs k ≡ Some x)
some_at [] k l = absurd (omega arith)
some_at (x ∷ xs) zero l = (x, refl)
some_at (x ∷ xs) (suc k) l = some_at xs k (omega arith)

-- One more verdict.

module _ (nest : Nest) (vs : List Verdict) (v : Verdict) where
  cover_on : (n : ℕ) (r : Relation) (k : ℕ) → IsCover nest vs n r k → IsCover nest (vs ++ v ∷ []) n r k
  cover_on n r k c = record { earlier = c.earlier; kept = stays vs v Kept k c.kept; relation = c.relation; there = c.there; covers = c.covers }

  cover_back : (n : ℕ) (r : Relation) (k : ℕ) → n ≤ length vs → IsCover nest (vs ++ v ∷ []) n r k → IsCover nest vs n r k
  cover_back n r k le c = elim (cases vs v Kept k c.kept) [
    | inl g ↦ record { earlier = c.earlier; kept = g; relation = c.relation; there = c.there; covers = c.covers }
    | inr p ↦ absurd (let e = c.earlier in omega (arith, p.0))
  ]

  pub verdict_on : (n : ℕ) (r : Relation) (w : Verdict) → n ≤ length vs → IsVerdict nest vs n r w → IsVerdict nest (vs ++ v ∷ []) n r w
  verdict_on n r (Dropped cert) le h = h
  verdict_on n r (Covered number) le h = (
    h.0,
    (
      h.1.0,
      h.1.1,
      record {
        holds = cover_on n r h.1.0 h.1.2.holds;
        least = λ j l c. h.1.2.least j l (cover_back n r j le c);
      },
    ),
  )
  verdict_on n r Kept le h = (h.0, λ k c. h.1 k (cover_back n r k le c))

  pub so_far_more : AreSoFar nest vs → IsNext nest vs v → AreSoFar nest (vs ++ v ∷ [])
  so_far_more s next = record {
    each = λ n r w there at. elim (cases vs v w n at) [
      | inl g ↦ verdict_on n r w (let l = slice_get_within vs n w g in omega arith) (s.each n r w there g)
      | inr p ↦ last n r w there p.0 p.1
    ];
    certified = λ n r w there at. elim (cases vs v w n at) [
      | inl g ↦ s.certified n r w there g
      | inr p ↦ shown n r w there p.0 p.1
    ];
  } where
    at_end : (n : ℕ) (r : Relation) → slice_get (relations nest) n ≡ Some r → n ≡ length vs → slice_get (relations nest) (length vs) ≡ Some r
    at_end n r there e = subst (λ (k : ℕ). slice_get (relations nest) k ≡ Some r) e there

    on : IsNext nest vs v
    on = next

    last : (n : ℕ) (r : Relation) (w : Verdict) → slice_get (relations nest) n ≡ Some r → n ≡ length vs → v ≡ w → IsVerdict nest (vs ++ v ∷ []) n r w
    last n r w there e f =
        let here : IsVerdict nest (vs ++ v ∷ []) (length vs) r v = verdict_on (length vs) r v (omega arith) (on.verdict r (at_end n r there e)) in
        subst (λ (x : Verdict). IsVerdict nest (vs ++ v ∷ []) n r x) f (subst (λ (k : ℕ). IsVerdict nest (vs ++ v ∷ []) k r v) (sym e) here)

    shown : (n : ℕ) (r : Relation) (w : Verdict) → slice_get (relations nest) n ≡ Some r → n ≡ length vs → v ≡ w → IsCertified nest r w
    shown n r w there e f = subst (IsCertified nest r) f (on.certified r (at_end n r there e))

pub none_so_far : (nest : Nest) → AreSoFar nest []
none_so_far nest = record { each = λ n r v there at. absurd (cc); certified = λ n r v there at. absurd (cc) }

-- The list of verdicts, from its beginning to its end.

pub at_start : (nest : Nest) (all : List Relation) (vs : List Verdict) → vs ≡ [] → (length vs ≤ length all) × AreSoFar nest vs
at_start nest all vs e = (subst (λ (l : List Verdict). length l ≤ length all) (sym e) (omega arith), subst (AreSoFar nest) (sym e) (none_so_far nest))

pub one_more : (nest : Nest) (all : List Relation) (vs ws slice : List Verdict) (v : Verdict) → AreSoFar nest vs → length vs < length all → slice ≡ vs → IsNext nest slice v → ws ≡ vs ++ v ∷ [] → (length ws ≤ length all) × AreSoFar nest ws
one_more nest all vs ws slice v so lt same next is =
    let long : length (vs ++ v ∷ []) ≡ length vs + 1 = length_push vs v in
    let few : length (vs ++ v ∷ []) ≤ length all = omega (arith, long, lt) in (
      subst (λ (l : List Verdict). length l ≤ length all) (sym is) few,
      subst (AreSoFar nest) (sym is) (so_far_more nest vs v so (subst (λ (l : List Verdict). IsNext nest l v) same next)),
    )

pub finished : (nest : Nest) (all : List Relation) (vs : List Verdict) → all ≡ relations nest → length vs ≤ length all → length all ≤ length vs → AreSoFar nest vs → AreVerdicts nest vs
finished nest all vs is few many so =
    let e : length all ≡ length (relations nest) = ap length is in
    record { long = omega (arith, e, few, many); each = so.each }
