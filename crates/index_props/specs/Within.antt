-- How large the constants at the entries and in the bounds of properties are.
use Rattle.std.specs.Prelude.{◌≤◌, ◌+◌, ◌^◌, List, unsigned_abs}
use Rattle.std.specs.List.{All}
use Rattle.loop_core.specs.declared.decl.PropDecl.{PropDecl}
use Rattle.loop_core.specs.declared.decl.PropKind.{PropKind}
use Rattle.loop_core.specs.declared.decl.PropKind.TheVariants.{Range, Rising, Strict, Injective, Sorted, Below, Upto, Diagonal, Before}
use Rattle.index_props.specs.Entries.{EntryTerms}

-- each argument's constant is at most 2^21 + 1, either way
abbrev pub EntriesWithin : List EntryTerms → Type 0
EntriesWithin es = All (λ e. unsigned_abs e.index.plus ≤ 2 ^ 21 + 1) es

-- the constants of the bounds of a `range` are from -2^21 to 2^21
abbrev pub BoundsWithin : PropKind → Type 0
BoundsWithin (Range f lo hi) = (unsigned_abs lo.plus ≤ 2 ^ 21) × (unsigned_abs hi.plus ≤ 2 ^ 21)
BoundsWithin (Rising p) = Unit {0}
BoundsWithin (Strict p) = Unit {0}
BoundsWithin (Injective f) = Unit {0}
BoundsWithin (Sorted f p) = Unit {0}
BoundsWithin (Below f p) = Unit {0}
BoundsWithin (Upto f p) = Unit {0}
BoundsWithin (Diagonal d f p) = Unit {0}
BoundsWithin (Before f g) = Unit {0}

abbrev pub AllBoundsWithin : List PropDecl → Type 0
AllBoundsWithin props = All (λ p. BoundsWithin p.kind) props
