-- What the properties of index arrays say, as sentences over plain lists and pairs of places.
use Rattle.std.specs.Prelude.{◌≡◌, ◌≤◌, ◌<◌, ◌+◌, ℕ, ℤ, pos, ◌≤ℤ◌, List, [], length, slice_index_or}
use Rattle.std.specs.Int.Signed.{◌<ℤ◌}
use Rattle.std.specs.List.{All}
use Rattle.loop_core.specs.declared.decl.PropDecl.{PropDecl}
use Rattle.loop_core.specs.declared.decl.PropKind.{PropKind}
use Rattle.loop_core.specs.declared.decl.PropKind.TheVariants.{Range, Rising, Strict, Injective, Sorted, Below, Upto, Diagonal, Before}
use Rattle.loop_core.specs.Lists.{Lists, list_of, word_at}
use Rattle.loop_core.specs.Terms.{term_value}

abbrev pub at : List ℤ → ℕ → ℤ
at list k = slice_index_or list k (pos 0)

-- each entry is from lo up to but not including hi
abbrev pub Ranged : List ℤ → ℤ → ℤ → Type 0
Ranged f lo hi = (a : ℕ) → a < length f → (lo ≤ℤ at f a) × (at f a <ℤ hi)

-- an earlier place has an entry that is at most that of a later one
abbrev pub RisingList : List ℤ → Type 0
RisingList p = (a b : ℕ) → a ≤ b → b < length p → at p a ≤ℤ at p b

-- an earlier place has an entry below that of a later one
abbrev pub StrictList : List ℤ → Type 0
StrictList p = (a b : ℕ) → a < b → b < length p → at p a <ℤ at p b

-- equal entries stand at equal places
abbrev pub InjectiveList : List ℤ → Type 0
InjectiveList f = (a b : ℕ) → a < length f → b < length f → at f a ≡ at f b → a ≡ b

-- place a lies in segment i of p, which goes from p[i] up to but not including p[i+1]
pub record InSegment (p : List ℤ) (i a : ℕ) : Type 0 where
  pub both : i + 1 < length p
  pub from : at p i ≤ℤ pos a
  pub below : pos a <ℤ at p (i + 1)

-- in each segment of p an earlier place of f has an entry below that of a later one
abbrev pub SortedBy : List ℤ → List ℤ → Type 0
SortedBy f p = (i a b : ℕ) → InSegment p i a → InSegment p i b → a < b → b < length f → at f a <ℤ at f b

-- the entries of f in segment i of p are below i
abbrev pub BelowBy : List ℤ → List ℤ → Type 0
BelowBy f p = (i a : ℕ) → InSegment p i a → a < length f → at f a <ℤ pos i

-- the entries of f in segment i of p are at most i
abbrev pub UptoBy : List ℤ → List ℤ → Type 0
UptoBy f p = (i a : ℕ) → InSegment p i a → a < length f → at f a ≤ℤ pos i

-- d[i] lies in segment i of p, and there f holds i
pub record IsDiagonal (d f p : List ℤ) (i : ℕ) : Type 0 where
  pub from : at p i ≤ℤ at d i
  pub below : at d i <ℤ at p (i + 1)
  pub here : word_at f (at d i) ≡ pos i

abbrev pub DiagonalOf : List ℤ → List ℤ → List ℤ → Type 0
DiagonalOf d f p = (i : ℕ) → i < length d → IsDiagonal d f p i

-- each entry of f is at most that of g at the same place
abbrev pub BeforeList : List ℤ → List ℤ → Type 0
BeforeList f g = (i : ℕ) → i < length f → at f i ≤ℤ at g i

-- what a property says of the arrays; the bounds of a range are numbers, n or nnz with a constant
abbrev pub Means : Lists → PropKind → Type 0
Means a (Range f lo hi) = Ranged (list_of a.lists f) (term_value a [] lo) (term_value a [] hi)
Means a (Rising p) = RisingList (list_of a.lists p)
Means a (Strict p) = StrictList (list_of a.lists p)
Means a (Injective f) = InjectiveList (list_of a.lists f)
Means a (Sorted f p) = SortedBy (list_of a.lists f) (list_of a.lists p)
Means a (Below f p) = BelowBy (list_of a.lists f) (list_of a.lists p)
Means a (Upto f p) = UptoBy (list_of a.lists f) (list_of a.lists p)
Means a (Diagonal d f p) = DiagonalOf (list_of a.lists d) (list_of a.lists f) (list_of a.lists p)
Means a (Before f g) = BeforeList (list_of a.lists f) (list_of a.lists g)

-- the arrays have each declared property
abbrev pub Passes : List PropDecl → Lists → Type 0
Passes props a = All (λ p. Means a p.kind) props
