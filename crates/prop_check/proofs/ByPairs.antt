-- The first pair that shows a failure gives its places; where no pair does, the property holds.
use Rattle.std.proofs.Common.{ℕ, ◌≡◌, ◌+◌, [], refl}
use Rattle.loop_core.specs.declared.decl.PropKind.{PropKind}
use Rattle.loop_core.specs.declared.decl.PropKind.TheVariants.{Range, Rising, Strict, Injective, Sorted, Below, Upto, Diagonal, Before}
use Rattle.loop_core.specs.Lists.{Lists, list_of}
use Rattle.loop_core.specs.Terms.{term_value}
use Rattle.index_props.specs.Meanings.{Means}
use Rattle.index_props.specs.Places.{IsLeast, LeastIn, OutOfRange, Falls, Stays, NoDiagonal, NotBefore, FailsAt}
use Rattle.prop_check.specs.declared.rule.Spot.{Spot}
use Rattle.prop_check.specs.Pairs.{IsShownBy, places_of}
use Rattle.prop_check.proofs.Found.{diagonal}
use Rattle.prop_check.proofs.Holds as holds

single : (Q : ℕ → Type 0) (h : ℕ → ℕ) (i k : ℕ) → LeastIn (λ j b. Q j × (b ≡ h j)) i k → IsLeast Q i × (k ≡ h i)
single Q h i k x = (record { holds = x.1.holds.0; least = λ j lt q. x.0.least j lt (h j, (q, refl)) }, x.1.holds.1)

pub fails_at : (a : Lists) (kind : PropKind) (x : Spot) → LeastIn (IsShownBy a kind) x.segment x.place → FailsAt a kind (places_of kind x).first (places_of kind x).second
fails_at a (Range f lo hi) x h = single (OutOfRange (list_of a.lists f) (term_value a [] lo) (term_value a [] hi)) (λ n. n) x.segment x.place h
fails_at a (Rising p) x h = single (Falls (list_of a.lists p)) (λ n. n + 1) x.segment x.place h
fails_at a (Strict p) x h = single (Stays (list_of a.lists p)) (λ n. n + 1) x.segment x.place h
fails_at a (Injective f) x h = h
fails_at a (Sorted f p) x h = ((x.segment, h), refl)
fails_at a (Below f p) x h = h
fails_at a (Upto f p) x h = h
fails_at a (Diagonal d f p) x h = single (NoDiagonal (list_of a.lists d) (list_of a.lists f) (list_of a.lists p)) (λ n. n) x.segment x.place h
fails_at a (Before f g) x h = single (NotBefore (list_of a.lists f) (list_of a.lists g)) (λ n. n) x.segment x.place h

pub none_fails : (a : Lists) (kind : PropKind) → ((i k : ℕ) → IsShownBy a kind i k → ⊥) → Means a kind
none_fails a (Range f lo hi) none = holds.ranged (list_of a.lists f) (term_value a [] lo) (term_value a [] hi) (λ k p. none k k (p, refl))
none_fails a (Rising p) none = holds.rising (list_of a.lists p) (λ k h. none k (k + 1) (h, refl))
none_fails a (Strict p) none = holds.strict (list_of a.lists p) (λ k h. none k (k + 1) (h, refl))
none_fails a (Injective f) none = holds.injective (list_of a.lists f) none
none_fails a (Sorted f p) none = holds.sorted (list_of a.lists f) (list_of a.lists p) none
none_fails a (Below f p) none = holds.below (list_of a.lists f) (list_of a.lists p) none
none_fails a (Upto f p) none = holds.upto (list_of a.lists f) (list_of a.lists p) none
none_fails a (Diagonal d f p) none = diagonal (list_of a.lists d) (list_of a.lists f) (list_of a.lists p) (λ k h. none k k (h, refl))
none_fails a (Before f g) none = holds.before (list_of a.lists f) (list_of a.lists g) (λ k h. none k k (h, refl))
