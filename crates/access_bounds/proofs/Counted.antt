-- The counting of systems, one after another.
use Rattle.std.proofs.Common.{◌≡◌, inl, inr, ℕ, ◌+◌, ◌<◌, ◌≤◌, List, [], ◌∷◌, ◌++◌, map, length, get_or, take, refl, sym, ap, ◌∙◌, subst, arith}
use Rattle.std.specs.Prelude.{Result, Ok, Err, IfErr}
use Rattle.std.specs.Result.{IsErrAnd}
use Rattle.std.specs.List.{All}
use Rattle.std.proofs.lemmas.List.Elements.{All-map}
use Rattle.std.proofs.lemmas.List.{take_more, map-append, length-map, get_or-map}
use Rattle.loop_core.specs.declared.decl.Decl.{Decl}
use Rattle.loop_core.specs.declared.decl.PropDecl.{PropDecl}
use Rattle.bracket_claims.specs.declared.claim.Claim.{Claim}
use Rattle.access_bounds.specs.declared.refusal.BoundsRefusal.{BoundsRefusal}
use Rattle.access_bounds.specs.declared.refusal.BoundsRefusal.TheVariants.{TermsFull, Unbounded, Memory}
use Rattle.access_bounds.specs.declared.refusal.Side2.{Side2}
use Rattle.access_bounds.specs.declared.refusal.Side2.TheVariants.{Low, High}
use Rattle.access_bounds.specs.Accepted.{IsBounded, IsUnreached, IsShown, Lacks}
use Rattle.uf_constraints.specs.declared.system.Universe.{Universe}
use Rattle.uf_constraints.proofs.Walked.{all_end}
use Rattle.bracket_claims.specs.Claims.{atoms_of, Size, Fits}
use Rattle.access_bounds.specs.First.{IsFirstNot}
use Rattle.access_bounds.specs.Judged.{AreUniverses, IsTooLarge, IsFullAmong}
use Rattle.access_bounds.proofs.Firsts.{first-at, first-map}

pub at-item : {X : Type 0} (P : X → Type 0) (xs : List X) (k : ℕ) (x : X) → k < length xs → x ≡ get_or xs k x → All P xs → P x
at-item P xs k x lt is all = subst P (sym is) (all k x lt)

pub if_err : {T E : Type 0} (outcome : Result T E) (error : E) (P : E → Type 0) → IsErrAnd outcome (λ e. e ≡ error) → P error → IfErr outcome P
if_err (Ok value) error P is p = absurd is
if_err (Err e) error P is p = subst P (sym is) p

-- all that were gone over fit
pub all-few : {X : Type 0} (size : X → Size) (xs : List X) (k : ℕ) → length xs ≤ k → All (λ x. Fits (size x)) (take k xs) → All Fits (map size xs)
all-few size xs k le h = All-map Fits size xs (all_end (λ x. Fits (size x)) xs k le h)

-- one more of a list that is made beside another
pub map_step : {X Y Z : Type 0} (f : X → Z) (g : Y → Z) (ys : List Y) (k : ℕ) (y : Y) (x : X) (old new : List X) → k < length ys → y ≡ get_or ys k y
    → map f old ≡ map g (take k ys) → new ≡ old ++ x ∷ [] → f x ≡ g y → map f new ≡ map g (take (k + 1) ys)
map_step f g ys k y x old new lt is before pushed same =
    ap (map f) pushed
    ∙ map-append f old (x ∷ [])
    ∙ (λ i. before i ++ (same ∙ ap g is) i ∷ [])
    ∙ sym (map-append g (take k ys) (get_or ys k y ∷ []))
    ∙ ap (map g) (sym (take_more ys k y lt))

not_fits : (z : Size) → 96 < z.atoms → Fits z → ⊥
not_fits z h g = omega arith

-- a system that is too large, after some that aren't
pub full_at : {X : Type 0} (size : X → Size) (xs : List X) (k : ℕ) (x : X) (e : BoundsRefusal) → k < length xs → x ≡ get_or xs k x → All (λ y. Fits (size y)) (take k xs) → IsTooLarge (size x) e → IsFullAmong (map size xs) e
full_at size xs k x (TermsFull line) lt is few h =
    (size x, first-map Fits size xs x (first-at (λ y. Fits (size y)) xs k x lt is few (not_fits (size x) h.0)), h.1)
full_at size xs k x (Unbounded line bracket side) lt is few h = h
full_at size xs k x Memory lt is few h = tt

pub lacks_not : (decls : List Decl) (props : List PropDecl) (c : Claim) (s : Side2) → Lacks decls props c s → IsBounded decls props c → ⊥
lacks_not decls props c Low h (inl u) = h.0 u
lacks_not decls props c Low h (inr g) = h.1 g.0
lacks_not decls props c High h (inl u) = h.0 u
lacks_not decls props c High h (inr g) = h.2 g.1

-- there are as many
pub many : (props : List PropDecl) (cs : List Claim) (us : List Universe) → AreUniverses props cs us → length us ≡ length cs
many props cs us are = sym (length-map us (λ (u : Universe). u.atoms)) ∙ ap length are ∙ length-map cs (atoms_of props)

-- the universe at a place is that of the claim there
pub universe_at : (props : List PropDecl) (cs : List Claim) (us : List Universe) (k : ℕ) (c : Claim) (u : Universe) → AreUniverses props cs us → k < length cs → c ≡ get_or cs k c → u ≡ get_or us k u → u.atoms ≡ atoms_of props c
universe_at props cs us k c u are lt is it =
    let long : length us ≡ length cs = many props cs us are in
    let inside : k < length us = omega arith in
    ap (λ (u : Universe). u.atoms) it
    ∙ sym (get_or-map (λ (u : Universe). u.atoms) us k u [] inside)
    ∙ ap (λ l. get_or l k []) are
    ∙ get_or-map (atoms_of props) cs k c [] lt
    ∙ ap (atoms_of props) (sym is)
