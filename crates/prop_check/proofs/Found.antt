-- A property that fails has places.
use Rattle.std.proofs.Common.{ℕ, ℤ, pos, [], ◌+◌, ◌<◌, inl, inr, arith, refl, List, length}
use Rattle.std.proofs.lemmas.Int.{ints}
use Rattle.std.proofs.Math.Decide.{dec_lt}
use Rattle.loop_core.specs.declared.decl.PropKind.{PropKind}
use Rattle.loop_core.specs.declared.decl.PropKind.TheVariants.{Range, Rising, Strict, Injective, Sorted, Below, Upto, Diagonal, Before}
use Rattle.loop_core.specs.Lists.{Lists, list_of, word_at}
use Rattle.loop_core.specs.Terms.{term_value}
use Rattle.index_props.specs.Meanings.{at, InSegment, IsDiagonal, DiagonalOf, Means}
use Rattle.index_props.specs.Places.{IsLeast, LeastIn, OutOfRange, Falls, Stays, SameBefore, StaysIn, NotBelowIn, AboveIn, NoDiagonal, NotBefore, FailsAt}
use Rattle.prop_check.proofs.Decided as decided
use Rattle.prop_check.proofs.Search.{found, found_in}
use Rattle.prop_check.proofs.Holds as holds

in_segment : (p : List ℤ) (i a : ℕ) → Dec (InSegment p i a)
in_segment p i a = decided.same
    (λ h. record { both = h.0; from = h.1.0; below = h.1.1 })
    (λ x. (x.both, (x.from, x.below)))
    (decided.both (dec_lt (i + 1) (length p)) (decided.both (decided.at_most (at p i) (pos a)) (decided.less (pos a) (at p (i + 1)))))

is_diagonal : (d f p : List ℤ) (i : ℕ) → Dec (IsDiagonal d f p i)
is_diagonal d f p i = decided.same
    (λ h. record { from = h.0; below = h.1.0; here = h.1.1 })
    (λ x. (x.from, (x.below, x.here)))
    (decided.both (decided.at_most (at p i) (at d i)) (decided.both (decided.less (at d i) (at p (i + 1))) (decided.equal (word_at f (at d i)) (pos i))))

stays : (p : List ℤ) (a : ℕ) → Dec (Stays p a)
stays p a = decided.both (dec_lt (a + 1) (length p)) (decided.at_most (at p (a + 1)) (at p a))

pub diagonal : (d f p : List ℤ) → ((k : ℕ) → NoDiagonal d f p k → ⊥) → DiagonalOf d f p
diagonal d f p none i lt = decided.stable (is_diagonal d f p i) (λ h. none i (lt, h))

one : (P : ℕ → Type 0) (m : ℕ) → ((k : ℕ) → Dec (P k)) → ((k : ℕ) → P k → k < m) → ((((k : ℕ) → P k → ⊥)) → ⊥) → (n : ℕ) × IsLeast P n
one P m d ends some = elim (found P d m ends) [ inl none ↦ absurd (some none) | inr x ↦ x ]

two : (P : ℕ → ℕ → Type 0) (m n : ℕ) → ((i k : ℕ) → Dec (P i k)) → ((i k : ℕ) → P i k → i < m) → ((i k : ℕ) → P i k → k < n) → ((((i k : ℕ) → P i k → ⊥)) → ⊥) → (i : ℕ) × (k : ℕ) × LeastIn P i k
two P m n d outer inner some = elim (found_in P d m n outer inner) [ inl none ↦ absurd (some none) | inr x ↦ x ]

pub places : (a : Lists) (kind : PropKind) → (Means a kind → ⊥) → (first : ℕ) × (second : ℕ) × FailsAt a kind first second
places a (Range f lo hi) fails =
    let fs = list_of a.lists f in
    let l = term_value a [] lo in
    let h = term_value a [] hi in
    let x = one (OutOfRange fs l h) (length fs) (λ k. decided.both (dec_lt k (length fs)) (decided.either (decided.less (at fs k) l) (decided.at_most h (at fs k)))) (λ k p. p.0) (λ none. fails (holds.ranged fs l h none)) in
    (x.0, x.0, (x.1, refl))
places a (Rising p) fails =
    let ps = list_of a.lists p in
    let x = one (Falls ps) (length ps) (λ k. decided.both (dec_lt (k + 1) (length ps)) (decided.less (at ps (k + 1)) (at ps k))) (λ k p. omega (arith, p)) (λ none. fails (holds.rising ps none)) in
    (x.0, x.0 + 1, (x.1, refl))
places a (Strict p) fails =
    let ps = list_of a.lists p in
    let x = one (Stays ps) (length ps) (stays ps) (λ k p. omega (arith, p)) (λ none. fails (holds.strict ps none)) in
    (x.0, x.0 + 1, (x.1, refl))
places a (Injective f) fails =
    let fs = list_of a.lists f in
    let x = two (SameBefore fs) (length fs) (length fs) (λ b k. decided.three (dec_lt k b) (dec_lt b (length fs)) (decided.equal (at fs k) (at fs b))) (λ b k p. p.1) (λ b k p. let l = p.0 in let m = p.1 in omega (arith, l, m)) (λ none. fails (holds.injective fs none)) in
    (x.1, x.0, x.2)
places a (Sorted f p) fails =
    let fs = list_of a.lists f in
    let ps = list_of a.lists p in
    let x = two (StaysIn fs ps) (length ps) (length fs) (λ i k. decided.three (in_segment ps i k) (in_segment ps i (k + 1)) (stays fs k)) (λ i k p. let b = p.0.both in omega (arith, b)) (λ i k p. let b = p.2.0 in omega (arith, b)) (λ none. fails (holds.sorted fs ps none)) in
    (x.1, x.1 + 1, ((x.0, x.2), refl))
places a (Below f p) fails =
    let fs = list_of a.lists f in
    let ps = list_of a.lists p in
    two (NotBelowIn fs ps) (length ps) (length fs) (λ i k. decided.three (in_segment ps i k) (dec_lt k (length fs)) (decided.at_most (pos i) (at fs k))) (λ i k p. let b = p.0.both in omega (arith, b)) (λ i k p. p.1) (λ none. fails (holds.below fs ps none))
places a (Upto f p) fails =
    let fs = list_of a.lists f in
    let ps = list_of a.lists p in
    two (AboveIn fs ps) (length ps) (length fs) (λ i k. decided.three (in_segment ps i k) (dec_lt k (length fs)) (decided.less (pos i) (at fs k))) (λ i k p. let b = p.0.both in omega (arith, b)) (λ i k p. p.1) (λ none. fails (holds.upto fs ps none))
places a (Diagonal d f p) fails =
    let ds = list_of a.lists d in
    let fs = list_of a.lists f in
    let ps = list_of a.lists p in
    let x = one (NoDiagonal ds fs ps) (length ds) (λ k. decided.both (dec_lt k (length ds)) (decided.not_so (is_diagonal ds fs ps k))) (λ k p. p.0) (λ none. fails (diagonal ds fs ps none)) in
    (x.0, x.0, (x.1, refl))
places a (Before f g) fails =
    let fs = list_of a.lists f in
    let gs = list_of a.lists g in
    let x = one (NotBefore fs gs) (length fs) (λ k. decided.both (dec_lt k (length fs)) (decided.less (at gs k) (at fs k))) (λ k p. p.0) (λ none. fails (holds.before fs gs none)) in
    (x.0, x.0, (x.1, refl))

-- and a property that has places fails
pub fails : (a : Lists) (kind : PropKind) (first second : ℕ) → FailsAt a kind first second → Means a kind → ⊥
fails a (Range f lo hi) k l x means =
    let h = x.0.holds in
    let m = means k h.0 in
    elim h.1 [ inl lt ↦ omega (arith, ints, lt, m) | inr ge ↦ omega (arith, ints, ge, m) ]
fails a (Rising p) k l x means =
    let h = x.0.holds in
    let m = means k (k + 1) (omega arith) h.0 in
    omega (arith, ints, h, m)
fails a (Strict p) k l x means =
    let h = x.0.holds in
    let m = means k (k + 1) (omega arith) h.0 in
    omega (arith, ints, h, m)
fails a (Injective f) k l x means =
    let h = x.1.holds in
    let before = h.0 in
    let m = means k l (omega (arith, before, h.1)) h.1 h.2 in
    omega (arith, before, m)
fails a (Sorted f p) k l x means =
    let h = x.0.1.1.holds in
    let m = means x.0.0 k (k + 1) h.0 h.1 (omega arith) h.2.0 in
    let s = h.2.1 in
    omega (arith, ints, s, m)
fails a (Below f p) i k x means =
    let h = x.1.holds in
    let m = means i k h.0 h.1 in
    let s = h.2 in
    omega (arith, ints, s, m)
fails a (Upto f p) i k x means =
    let h = x.1.holds in
    let m = means i k h.0 h.1 in
    let s = h.2 in
    omega (arith, ints, s, m)
fails a (Diagonal d f p) k l x means = let h = x.0.holds in h.1 (means k h.0)
fails a (Before f g) k l x means =
    let h = x.0.holds in
    let m = means k h.0 in
    let s = h.1 in
    omega (arith, ints, s, m)
