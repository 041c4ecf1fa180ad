-- The two places that show that a property fails.
use Rattle.std.specs.Prelude.{◌≡◌, ◌⊎◌, ◌<◌, ◌+◌, ℕ, ℤ, pos, ◌≤ℤ◌, List, [], length}
use Rattle.std.specs.Int.Signed.{◌<ℤ◌}
use Rattle.loop_core.specs.declared.decl.PropKind.{PropKind}
use Rattle.loop_core.specs.declared.decl.PropKind.TheVariants.{Range, Rising, Strict, Injective, Sorted, Below, Upto, Diagonal, Before}
use Rattle.loop_core.specs.Lists.{Lists, list_of}
use Rattle.loop_core.specs.Terms.{term_value}
use Rattle.index_props.specs.Meanings.{at, InSegment, IsDiagonal}

-- the least number with a property
pub record IsLeast (P : ℕ → Type 0) (n : ℕ) : Type 0 where
  pub holds : P n
  pub least : (k : ℕ) → k < n → P k → ⊥

abbrev pub OutOfRange : List ℤ → ℤ → ℤ → ℕ → Type 0
OutOfRange f lo hi a = (a < length f) × ((at f a <ℤ lo) ⊎ (hi ≤ℤ at f a))

-- an entry that is above the next one, and one that is not below it
abbrev pub Falls : List ℤ → ℕ → Type 0
Falls p a = (a + 1 < length p) × (at p (a + 1) <ℤ at p a)

abbrev pub Stays : List ℤ → ℕ → Type 0
Stays p a = (a + 1 < length p) × (at p (a + 1) ≤ℤ at p a)

-- an earlier place with an equal entry
abbrev pub SameBefore : List ℤ → ℕ → ℕ → Type 0
SameBefore f b a = (a < b) × (b < length f) × (at f a ≡ at f b)

-- two neighbours in segment i that don't rise
abbrev pub StaysIn : List ℤ → List ℤ → ℕ → ℕ → Type 0
StaysIn f p i a = InSegment p i a × InSegment p i (a + 1) × Stays f a

abbrev pub NotBelowIn : List ℤ → List ℤ → ℕ → ℕ → Type 0
NotBelowIn f p i a = InSegment p i a × (a < length f) × (pos i ≤ℤ at f a)

abbrev pub AboveIn : List ℤ → List ℤ → ℕ → ℕ → Type 0
AboveIn f p i a = InSegment p i a × (a < length f) × (pos i <ℤ at f a)

abbrev pub NoDiagonal : List ℤ → List ℤ → List ℤ → ℕ → Type 0
NoDiagonal d f p i = (i < length d) × (IsDiagonal d f p i → ⊥)

abbrev pub NotBefore : List ℤ → List ℤ → ℕ → Type 0
NotBefore f g i = (i < length f) × (at g i <ℤ at f i)

-- the least segment in which some place fails, and the least such place in it
abbrev pub LeastIn : (ℕ → ℕ → Type 0) → ℕ → ℕ → Type 0
LeastIn P i a = IsLeast (λ j. (b : ℕ) × P j b) i × IsLeast (P i) a

-- the first and the second place of the failure of a property
abbrev pub FailsAt : Lists → PropKind → ℕ → ℕ → Type 0
FailsAt a (Range f lo hi) first second = IsLeast (OutOfRange (list_of a.lists f) (term_value a [] lo) (term_value a [] hi)) first × (second ≡ first)
FailsAt a (Rising p) first second = IsLeast (Falls (list_of a.lists p)) first × (second ≡ first + 1)
FailsAt a (Strict p) first second = IsLeast (Stays (list_of a.lists p)) first × (second ≡ first + 1)
FailsAt a (Injective f) first second = LeastIn (SameBefore (list_of a.lists f)) second first
FailsAt a (Sorted f p) first second = ((i : ℕ) × LeastIn (StaysIn (list_of a.lists f) (list_of a.lists p)) i first) × (second ≡ first + 1)
FailsAt a (Below f p) first second = LeastIn (NotBelowIn (list_of a.lists f) (list_of a.lists p)) first second
FailsAt a (Upto f p) first second = LeastIn (AboveIn (list_of a.lists f) (list_of a.lists p)) first second
FailsAt a (Diagonal d f p) first second = IsLeast (NoDiagonal (list_of a.lists d) (list_of a.lists f) (list_of a.lists p)) first × (second ≡ first)
FailsAt a (Before f g) first second = IsLeast (NotBefore (list_of a.lists f) (list_of a.lists g)) first × (second ≡ first)
