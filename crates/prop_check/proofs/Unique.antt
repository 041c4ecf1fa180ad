-- A property has one pair of places.
use Rattle.std.proofs.Common.{ℕ, ◌+◌, ◌≡◌, arith, subst, sym, ap, ◌∙◌}
use Rattle.loop_core.specs.declared.decl.PropKind.{PropKind}
use Rattle.loop_core.specs.declared.decl.PropKind.TheVariants.{Range, Rising, Strict, Injective, Sorted, Below, Upto, Diagonal, Before}
use Rattle.loop_core.specs.Lists.{Lists, list_of}
use Rattle.index_props.specs.Places.{IsLeast, LeastIn, FailsAt, StaysIn}

least_once : (P : ℕ → Type 0) (n m : ℕ) → IsLeast P n → IsLeast P m → m ≡ n
least_once P n m x y = grind (arith, x.least m, y.least n, x.holds, y.holds)

least_in_once : (P : ℕ → ℕ → Type 0) (i k j l : ℕ) → LeastIn P i k → LeastIn P j l → (j ≡ i) × (l ≡ k)
least_in_once P i k j l x y =
    let outer : j ≡ i = least_once (λ n. (b : ℕ) × P n b) i j x.0 y.0 in
    (outer, least_once (P i) k l x.1 (subst (λ n. IsLeast (P n) l) outer y.1))

pub once : (a : Lists) (kind : PropKind) (first second other last : ℕ) → FailsAt a kind first second → FailsAt a kind other last → (other ≡ first) × (last ≡ second)
once a (Range f lo hi) k l m n x y = let e = least_once _ k m x.0 y.0 in (e, y.1 ∙ e ∙ sym x.1)
once a (Rising p) k l m n x y = let e = least_once _ k m x.0 y.0 in (e, y.1 ∙ ap (λ z. z + 1) e ∙ sym x.1)
once a (Strict p) k l m n x y = let e = least_once _ k m x.0 y.0 in (e, y.1 ∙ ap (λ z. z + 1) e ∙ sym x.1)
once a (Injective f) k l m n x y = let e = least_in_once _ l k n m x y in (e.1, e.0)
once a (Sorted f p) k l m n x y =
    let e = (least_in_once (StaysIn (list_of a.lists f) (list_of a.lists p)) x.0.0 k y.0.0 m x.0.1 y.0.1).1 in
    (e, y.1 ∙ ap (λ z. z + 1) e ∙ sym x.1)
once a (Below f p) k l m n x y = least_in_once _ k l m n x y
once a (Upto f p) k l m n x y = least_in_once _ k l m n x y
once a (Diagonal d f p) k l m n x y = let e = least_once _ k m x.0 y.0 in (e, y.1 ∙ e ∙ sym x.1)
once a (Before f g) k l m n x y = let e = least_once _ k m x.0 y.0 in (e, y.1 ∙ e ∙ sym x.1)
