-- Marks that are put at what steps name.
use Rattle.std.proofs.Common.{ℕ, zero, suc, ◌+◌, ◌<◌, ◌≤◌, ◌≡◌, ◌⊎◌, inl, inr, arith, refl, sym, ◌∙◌, subst, ap, List, [], ◌∷◌, ◌++◌, length, slice_get, slice_index_or, take, drop, Bool, true, false, Option, Some}
use Rattle.std.specs.List.{Contains}
use Rattle.std.proofs.lemmas.Bool.{cases_eq}
use Rattle.std.proofs.lemmas.Option.{same_Some}
use Rattle.std.proofs.lemmas.List.{take_more, take_all}
use Rattle.std.proofs.lemmas.List.Elements.{Contains-append_left, Contains-append_right, Contains-append_cases}
use Rattle.index_props.specs.declared.certificate.Step.{Step}
use Rattle.cert_prune.specs.Needed.{names, is_marked, IsMarked, IsMarkedFrom, IsNamed, AreNeeded}

-- a case split that keeps its equation
known : (P : Type 0) (b : Bool) → ((b ≡ true) → P) → ((b ≡ false) → P) → P
known P true t f = t refl
known P false t f = f refl

pub none_marked : (below : ℕ) (marks : List Bool) → IsMarked below [] marks marks
none_marked below marks = record {
  long = refl;
  grown = λ k h. h;
  marked = λ k i l. absurd (let n = i.1 in omega arith);
  only = λ k h. inl h;
}

pub both_marked : (below : ℕ) (ks ls : List ℕ) (old mid new : List Bool) → IsMarked below ks old mid → IsMarked below ls mid new → IsMarked below (ks ++ ls) old new
both_marked below ks ls old mid new a b = record {
  long = b.long ∙ a.long;
  grown = λ k h. b.grown k (a.grown k h);
  marked = λ k i l. elim (Contains-append_cases ks ls k i) [ inl j ↦ b.grown k (a.marked k j l) | inr j ↦ b.marked k j l ];
  only = λ k h. elim (b.only k h) [ inl g ↦ before k (a.only k g) | inr p ↦ inr (Contains-append_right ks ls k p.0, p.1) ];
} where
  before : (k : ℕ) → (is_marked old k ≡ true) ⊎ (Contains ks k × (k < below)) → (is_marked old k ≡ true) ⊎ (Contains (ks ++ ls) k × (k < below))
  before k (inl g) = inl g
  before k (inr p) = inr (Contains-append_left ks ls k p.0, p.1)

pub marked_more : (below : ℕ) (ks : List ℕ) (i : ℕ) (k : ℕ) (old mid new : List Bool) → i < length ks → k ≡ slice_index_or ks i 0 → IsMarked below (take i ks) old mid → IsMarked below (k ∷ []) mid new → IsMarked below (take (i + 1) ks) old new
marked_more below ks i k old mid new lt is a b =
    let P : List ℕ → Type 0 = λ l. IsMarked below l old new in
    let f : take i ks ++ k ∷ [] ≡ take (i + 1) ks = rw is (sym (take_more ks i 0 lt)) in
    subst P f (both_marked below (take i ks) (k ∷ []) old mid new a b)

pub marked_whole : (below : ℕ) (ks : List ℕ) (i : ℕ) (old new : List Bool) → length ks ≤ i → IsMarked below (take i ks) old new → IsMarked below ks old new
marked_whole below ks i old new le a =
    let P : List ℕ → Type 0 = λ l. IsMarked below l old new in subst P (take_all i ks le) a

module _ (steps : List Step) (at : ℕ) (s : Step) (is : slice_get steps at ≡ Some s) (old new : List Bool) (m : IsMarkedFrom at (names s) old new) (a : AreNeeded (suc at) steps old) where
  -- a step of that number is this one
  step_is : (j : ℕ) (t : Step) → j ≡ at → slice_get steps j ≡ Some t → t ≡ s
  step_is j t e h =
      let g : slice_get steps at ≡ Some t = subst (λ (k : ℕ). slice_get steps k ≡ Some t) e h in
      same_Some t s (sym g ∙ is)

  grown_named : IsMarked at (names s) old new → (k j : ℕ) (t : Step) → IsNamed steps old k j t → IsNamed steps new k j t
  grown_named im k j t n = record { after = n.after; step = n.step; marked = im.grown j n.marked; named = n.named }

  marked_there : is_marked old at ≡ true → AreNeeded at steps new
  marked_there h = record {
    long = im.long ∙ a.long;
    last = λ k e. im.grown k (a.last k e);
    closed = closed;
    only = λ k l h. elim (im.only k h) [ inl g ↦ earlier k (a.only k l g) | inr p ↦ (at, s, record { after = p.1; step = is; marked = im.grown at there; named = p.0 }) ];
  } where
    im : IsMarked at (names s) old new
    im = m.there h

    there : is_marked old at ≡ true
    there = h

    earlier : (k : ℕ) → (j : ℕ) × (t : Step) × IsNamed steps old k j t → (j : ℕ) × (t : Step) × IsNamed steps new k j t
    earlier k (j, t, n) = (j, t, grown_named im k j t n)

    later : (k j : ℕ) (t : Step) → suc at ≤ j → IsNamed steps new k j t → (is_marked old j ≡ true) ⊎ (Contains (names s) j × (j < at)) → is_marked new k ≡ true
    later k j t le n (inl g) = im.grown k (a.closed k j t le (record { after = n.after; step = n.step; marked = g; named = n.named }))
    later k j t le n (inr p) = absurd (let l = p.1 in omega arith)

    closed : (k j : ℕ) (t : Step) → at ≤ j → IsNamed steps new k j t → is_marked new k ≡ true
    closed k j t le n = elim (cases_eq j at) [
      | inl e ↦ (let f = step_is j t e n.step in let l = n.after in im.marked k (subst (λ (x : Step). Contains (names x) k) f n.named) (omega arith))
      | inr e ↦ later k j t (omega arith) n (im.only j n.marked)
    ]

  unmarked_there : is_marked old at ≡ false → AreNeeded at steps old
  unmarked_there h = record { long = a.long; last = a.last; closed = closed; only = a.only } where
    no : is_marked old at ≡ false
    no = h

    closed : (k j : ℕ) (t : Step) → at ≤ j → IsNamed steps old k j t → is_marked old k ≡ true
    closed k j t le n = elim (cases_eq j at) [
      | inl e ↦ absurd (let g : is_marked old at ≡ true = subst (λ (x : ℕ). is_marked old x ≡ true) e n.marked in cc)
      | inr e ↦ a.closed k j t (omega arith) n
    ]

  pub needed_more : AreNeeded at steps new
  needed_more = known (AreNeeded at steps new) (is_marked old at) marked_there
      (λ h. subst (AreNeeded at steps) (sym (m.else h)) (unmarked_there h))

pub needed_all : (n : ℕ) (steps : List Step) (marks : List Bool) → n ≤ 0 → AreNeeded n steps marks → AreNeeded 0 steps marks
needed_all n steps marks le a = let e : n ≡ 0 = omega arith in subst (λ (k : ℕ). AreNeeded k steps marks) e a
