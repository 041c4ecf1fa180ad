-- A failure of any property as a pair of numbers: for properties of segments the segment and a place in it, for
-- `injective` the later place and the earlier one, else the two places.
use Rattle.std.specs.Prelude.{◌≡◌, ◌+◌, ℕ, []}
use Rattle.loop_core.specs.declared.decl.PropKind.{PropKind}
use Rattle.loop_core.specs.declared.decl.PropKind.TheVariants.{Range, Rising, Strict, Injective, Sorted, Below, Upto, Diagonal, Before}
use Rattle.loop_core.specs.Lists.{Lists, list_of}
use Rattle.loop_core.specs.Terms.{term_value}
use Rattle.prop_check.specs.declared.places.Places.{Places}
use Rattle.prop_check.specs.declared.rule.Spot.{Spot}
use Rattle.index_props.specs.Places.{OutOfRange, Falls, Stays, SameBefore, StaysIn, NotBelowIn, AboveIn, NoDiagonal, NotBefore}

abbrev pub IsShownBy : Lists → PropKind → ℕ → ℕ → Type 0
IsShownBy a (Range f lo hi) i k = OutOfRange (list_of a.lists f) (term_value a [] lo) (term_value a [] hi) i × (k ≡ i)
IsShownBy a (Rising p) i k = Falls (list_of a.lists p) i × (k ≡ i + 1)
IsShownBy a (Strict p) i k = Stays (list_of a.lists p) i × (k ≡ i + 1)
IsShownBy a (Injective f) i k = SameBefore (list_of a.lists f) i k
IsShownBy a (Sorted f p) i k = StaysIn (list_of a.lists f) (list_of a.lists p) i k
IsShownBy a (Below f p) i k = NotBelowIn (list_of a.lists f) (list_of a.lists p) i k
IsShownBy a (Upto f p) i k = AboveIn (list_of a.lists f) (list_of a.lists p) i k
IsShownBy a (Diagonal d f p) i k = NoDiagonal (list_of a.lists d) (list_of a.lists f) (list_of a.lists p) i × (k ≡ i)
IsShownBy a (Before f g) i k = NotBefore (list_of a.lists f) (list_of a.lists g) i × (k ≡ i)

-- the places that a pair stands for
abbrev pub places_of : PropKind → Spot → Places
places_of (Injective f) x = record { first = x.place; second = x.segment }
places_of (Sorted f p) x = record { first = x.place; second = x.place + 1 }
places_of (Range f lo hi) x = record { first = x.segment; second = x.place }
places_of (Rising p) x = record { first = x.segment; second = x.place }
places_of (Strict p) x = record { first = x.segment; second = x.place }
places_of (Below f p) x = record { first = x.segment; second = x.place }
places_of (Upto f p) x = record { first = x.segment; second = x.place }
places_of (Diagonal d f p) x = record { first = x.segment; second = x.place }
places_of (Before f g) x = record { first = x.segment; second = x.place }
