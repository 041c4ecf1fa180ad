-- Each property is among those without repeats, its line aside, and nothing else is.
use Rattle.std.proofs.Common.{◌≡◌, ◌⊎◌, inl, inr, ℕ, ◌==◌, ◌&&◌, Bool, true, false, cond, List, [], ◌∷◌, ◌++◌, refl, sym, ap, ◌∙◌, subst, rules, arith, zero, suc}
use Rattle.std.specs.Prelude.{◌||◌, fold}
use Rattle.std.specs.List.{All, Contains, list_any}
use Rattle.std.proofs.lemmas.Bool.{eqb-true}
use Rattle.std.proofs.lemmas.Bool.Decides.{nat_tests}
use Rattle.std.proofs.lemmas.List.Elements.{All-weaker, All-contains, All-contains_itself, Contains-append_left, Contains-append_right, Contains-append_cases, Contains-push, Contains-push_cases}
use Rattle.wave_base.specs.declared.types.ArrayId.{ArrayId}
use Rattle.loop_core.specs.declared.decl.PropDecl.{PropDecl}
use Rattle.loop_core.specs.declared.decl.PropKind.{PropKind}
use Rattle.loop_core.specs.declared.decl.PropKind.TheVariants.{Range, Rising, Strict, Injective, Sorted, Below, Upto, Diagonal, Before}
use Rattle.loop_core.specs.declared.nest.Term.{Term}
use Rattle.loop_core.specs.Shape.{same_array}
use Rattle.uf_constraints.specs.Same.{same_term}
use Rattle.uf_constraints.proofs.Equal.{both, array_is, same_term_is}
use Rattle.props_once.specs.Repeats.{same_kind, is_declared, kept, without_repeats}

-- The test of sameness is right.

range_is : (f g : ArrayId) (lo low hi high : Term) → same_kind (Range f lo hi) (Range g low high) ≡ true → Range f lo hi ≡ Range g low high
range_is f g lo low hi high h =
    let one = both (same_array f g) (same_term lo low && same_term hi high) h in
    let two = both (same_term lo low) (same_term hi high) one.1 in
    ap (λ (x : ArrayId). Range x lo hi) (array_is f g one.0) ∙ ap (λ (x : Term). Range g x hi) (same_term_is lo low two.0) ∙ ap (λ (x : Term). Range g low x) (same_term_is hi high two.1)

pair_is : (K : ArrayId → ArrayId → PropKind) (f g p q : ArrayId) → (same_array f g && same_array p q) ≡ true → K f p ≡ K g q
pair_is K f g p q h =
    let two = both (same_array f g) (same_array p q) h in
    ap (λ (x : ArrayId). K x p) (array_is f g two.0) ∙ ap (K g) (array_is p q two.1)

diagonal_is : (d e f g p q : ArrayId) → (same_array d e && (same_array f g && same_array p q)) ≡ true → Diagonal d f p ≡ Diagonal e g q
diagonal_is d e f g p q h =
    let two = both (same_array d e) (same_array f g && same_array p q) h in
    ap (λ (x : ArrayId). Diagonal x f p) (array_is d e two.0) ∙ pair_is (Diagonal e) f g p q two.1

pub kind_is : (k l : PropKind) → same_kind k l ≡ true → k ≡ l
kind_is (Range f lo hi) (Range g low high) h = range_is f g lo low hi high h
kind_is (Rising p) (Rising q) h = ap Rising (array_is p q h)
kind_is (Strict p) (Strict q) h = ap Strict (array_is p q h)
kind_is (Injective p) (Injective q) h = ap Injective (array_is p q h)
kind_is (Sorted f p) (Sorted g q) h = pair_is Sorted f g p q h
kind_is (Below f p) (Below g q) h = pair_is Below f g p q h
kind_is (Upto f p) (Upto g q) h = pair_is Upto f g p q h
kind_is (Diagonal d f p) (Diagonal e g q) h = diagonal_is d e f g p q h
kind_is (Before f g) (Before h k) e = pair_is Before f h g k e
kind_is k l h = absurd (cc)

-- What is declared.

or_cases : (s t : Bool) → (s || t) ≡ true → (s ≡ true) ⊎ (t ≡ true)
or_cases true t e = inl refl
or_cases false t e = inr e

abbrev pub Has : List PropDecl → PropKind → Type 0
Has props kind = (q : PropDecl) × Contains props q × (q.kind ≡ kind)

pub has_more : (xs ys : List PropDecl) (kind : PropKind) → ((q : PropDecl) → Contains xs q → Contains ys q) → Has xs kind → Has ys kind
has_more xs ys kind into h = (h.0, into h.0 h.1, h.2)

pub declared_is : (props : List PropDecl) (kind : PropKind) → is_declared props kind ≡ true → Has props kind
declared_is [] kind h = absurd (cc)
declared_is (p ∷ props) kind h = by (or_cases (same_kind kind p.kind) (is_declared props kind) h) (declared_is props kind)
  where
    by : (same_kind kind p.kind ≡ true) ⊎ (is_declared props kind ≡ true) → (is_declared props kind ≡ true → Has props kind) → Has (p ∷ props) kind
    by (inl e) rest = (p, (0, omega arith, refl), sym (kind_is kind p.kind e))
    by (inr e) rest = has_more props (p ∷ props) kind (λ q c. Contains-append_right (p ∷ []) props q c) (rest e)

pub known : (P : Bool → Type 0) (b : Bool) → (b ≡ true → P true) → (b ≡ false → P false) → P b
known P true f g = f refl
known P false f g = g refl

-- What is kept.

stays : (acc : List PropDecl) (p q : PropDecl) → Contains acc q → Contains (kept acc p) q
stays acc p q h = elim (is_declared acc p.kind) as (λ b. Contains (cond b acc (acc ++ p ∷ [])) q) [ true ↦ h | false ↦ Contains-append_left acc (p ∷ []) q h ]

all_stay : (props acc : List PropDecl) (q : PropDecl) → Contains acc q → Contains (fold kept acc props) q
all_stay [] acc q h = h
all_stay (p ∷ props) acc q h = all_stay props (kept acc p) q (stays acc p q h)

here : (acc : List PropDecl) (p : PropDecl) → Has (kept acc p) p.kind
here acc p =
    known (λ b. Has (cond b acc (acc ++ p ∷ [])) p.kind) (is_declared acc p.kind)
    (λ e. declared_is acc p.kind e)
    (λ e. (p, Contains-push acc p, refl))

all_here : (props acc : List PropDecl) (p : PropDecl) → Contains props p → Has (fold kept acc props) p.kind
all_here [] acc p (k, l, e) = absurd (omega arith)
all_here (x ∷ props) acc p (zero, l, e) =
    subst (λ (y : PropDecl). Has (fold kept acc (x ∷ props)) y.kind) e
    (has_more (kept acc x) (fold kept (kept acc x) props) x.kind (all_stay props (kept acc x)) (here acc x))
all_here (x ∷ props) acc p (suc k, l, e) = all_here props (kept acc x) p (k, omega arith, e)

-- nothing else is kept
from : (acc : List PropDecl) (p q : PropDecl) → Contains (kept acc p) q → Contains acc q ⊎ (p ≡ q)
from acc p q = known (λ b. Contains (cond b acc (acc ++ p ∷ [])) q → Contains acc q ⊎ (p ≡ q)) (is_declared acc p.kind) (λ e h. inl h) (λ e h. Contains-push_cases acc p q h)

all_from : (props acc : List PropDecl) (q : PropDecl) → Contains (fold kept acc props) q → Contains acc q ⊎ Contains props q
all_from [] acc q h = inl h
all_from (p ∷ props) acc q h = by (all_from props (kept acc p) q h)
  where
    first : Contains acc q ⊎ (p ≡ q) → Contains acc q ⊎ Contains (p ∷ props) q
    first (inl c) = inl c
    first (inr e) = inr (0, omega arith, e)

    by : Contains (kept acc p) q ⊎ Contains props q → Contains acc q ⊎ Contains (p ∷ props) q
    by (inl c) = first (from acc p q c)
    by (inr c) = inr (Contains-append_right (p ∷ []) props q c)

pub kept-once : (props : List PropDecl) (p : PropDecl) → Contains props p → Has (without_repeats props) p.kind
kept-once props p h = all_here props [] p h

pub once-declared : (props : List PropDecl) (q : PropDecl) → Contains (without_repeats props) q → Contains props q
once-declared props q h = by (all_from props [] q h)
  where
    by : Contains [] q ⊎ Contains props q → Contains props q
    by (inl c) = absurd (omega (arith, c.1))
    by (inr c) = c

-- What holds of all kinds holds of the kinds without repeats, and the other way round.

pub all-once : (P : PropKind → Type 0) (props : List PropDecl) → All (λ p. P p.kind) props → All (λ p. P p.kind) (without_repeats props)
all-once P props h =
    All-weaker (Contains (without_repeats props)) (λ p. P p.kind) (λ q c. All-contains (λ p. P p.kind) props q h (once-declared props q c)) (without_repeats props) (All-contains_itself (without_repeats props))

pub once-all : (P : PropKind → Type 0) (props : List PropDecl) → All (λ p. P p.kind) (without_repeats props) → All (λ p. P p.kind) props
once-all P props h =
    All-weaker (Contains props) (λ p. P p.kind) (λ p c. let q = kept-once props p c in subst P q.2 (All-contains (λ p. P p.kind) (without_repeats props) q.0 h q.1)) props (All-contains_itself props)
