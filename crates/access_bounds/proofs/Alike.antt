-- Lists that are equal, place by place, and claims that were seen.
use Rattle.std.proofs.Common.{◌≡◌, ◌⊎◌, ◌↔◌, inl, inr, ℕ, ◌+◌, ◌<◌, ◌≤◌, IsTrue, true, false, List, [], ◌∷◌, ◌++◌, length, get_or, take, refl, sym, ap, ◌∙◌, subst, arith}
use Rattle.std.specs.List.{Contains}
use Rattle.std.proofs.lemmas.Bool.{false≢true}
use Rattle.std.proofs.lemmas.List.{take_more, take_more_same, take_all, get_or_default}
use Rattle.std.proofs.lemmas.List.Elements.{Contains-push_cases}
use Rattle.bracket_claims.specs.declared.claim.Claim.{Claim}
use Rattle.access_bounds.specs.Shared.{HaveOneSystem, IsSeen}

pub same-at : {X : Type 0} (xs ys : List X) (k : ℕ) (x y : X) → k < length ys → x ≡ get_or xs k x → y ≡ get_or ys k y → xs ≡ ys → x ≡ y
same-at xs ys k x y lt is it e = is ∙ ap (λ l. get_or l k x) e ∙ get_or_default ys k x y lt ∙ sym it

pub same-next : {X : Type 0} (xs ys : List X) (k : ℕ) (x y : X) → k < length xs → length xs ≡ length ys → x ≡ get_or xs k x → y ≡ get_or ys k y → take k xs ≡ take k ys → x ≡ y → take (k + 1) xs ≡ take (k + 1) ys
same-next xs ys k x y lt long is it before same =
    let inside : k < length ys = omega arith in
    take_more_same xs ys k x lt inside before (sym is ∙ same ∙ it ∙ get_or_default ys k y x inside)

pub same-all : {X : Type 0} (xs ys : List X) (k : ℕ) → length xs ≤ k → length xs ≡ length ys → take k xs ≡ take k ys → xs ≡ ys
same-all xs ys k le long h =
    let also : length ys ≤ k = omega arith in
    sym (take_all k xs le) ∙ h ∙ take_all k ys also

pub no : {P : Type 0} → (P → ⊥) → IsTrue false ↔ P
no n = (λ h. absurd (false≢true h), λ p. absurd (n p))

pub yes : {P : Type 0} → P → IsTrue true ↔ P
yes p = (λ _. p, λ _. refl)

-- a claim that none of the first k had the system of, nor the next
pub not-next : (seen : List Claim) (k : ℕ) (e c : Claim) → k < length seen → e ≡ get_or seen k e → (IsSeen (take k seen) c → ⊥) → (HaveOneSystem e c → ⊥) → IsSeen (take (k + 1) seen) c → ⊥
not-next seen k e c lt is before here (d, there, same) = by (Contains-push_cases (take k seen) e d (subst (λ l. Contains l d) (take_more seen k e lt ∙ ap (λ (x : Claim). take k seen ++ x ∷ []) (sym is)) there))
  where
    by : Contains (take k seen) d ⊎ (e ≡ d) → ⊥
    by (inl h) = before (d, h, same)
    by (inr h) = here (subst (λ (x : Claim). HaveOneSystem x c) (sym h) same)

pub not-all : (seen : List Claim) (k : ℕ) (c : Claim) → length seen ≤ k → (IsSeen (take k seen) c → ⊥) → IsSeen seen c → ⊥
not-all seen k c le n = subst (λ l. IsSeen l c → ⊥) (take_all k seen le) n

pub not-none : (c : Claim) → IsSeen [] c → ⊥
not-none c (d, (k, lt, e), same) = omega (arith, lt)

pub seen-here : (seen : List Claim) (k : ℕ) (e c : Claim) → k < length seen → e ≡ get_or seen k e → HaveOneSystem e c → IsSeen seen c
seen-here seen k e c lt is same = (e, (k, lt, sym is), same)
