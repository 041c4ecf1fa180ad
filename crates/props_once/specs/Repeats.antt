-- Properties without those that are declared again.
use Rattle.std.specs.Prelude.{Bool, true, false, ◌&&◌, if◌then◌else◌, List, [], ◌∷◌, ◌++◌, fold}
use Rattle.std.specs.List.{list_any}
use Rattle.loop_core.specs.declared.decl.PropDecl.{PropDecl}
use Rattle.loop_core.specs.declared.decl.PropKind.{PropKind}
use Rattle.loop_core.specs.declared.decl.PropKind.TheVariants.{Range, Rising, Strict, Injective, Sorted, Below, Upto, Diagonal, Before}
use Rattle.loop_core.specs.Shape.{same_array}
use Rattle.uf_constraints.specs.Same.{same_term}

-- the same property of the same arrays, with the same bounds
abbrev pub same_kind : PropKind → PropKind → Bool
same_kind (Range f lo hi) (Range g low high) = same_array f g && (same_term lo low && same_term hi high)
same_kind (Rising p) (Rising q) = same_array p q
same_kind (Strict p) (Strict q) = same_array p q
same_kind (Injective f) (Injective g) = same_array f g
same_kind (Sorted f p) (Sorted g q) = same_array f g && same_array p q
same_kind (Below f p) (Below g q) = same_array f g && same_array p q
same_kind (Upto f p) (Upto g q) = same_array f g && same_array p q
same_kind (Diagonal d f p) (Diagonal e g q) = same_array d e && (same_array f g && same_array p q)
same_kind (Before f g) (Before h k) = same_array f h && same_array g k
same_kind _ _ = false

-- the list has such a property
abbrev pub is_declared : List PropDecl → PropKind → Bool
is_declared props kind = list_any (λ p. same_kind kind p.kind) props

-- the list with a property at its end, where it has none such
abbrev pub kept : List PropDecl → PropDecl → List PropDecl
kept props p = if is_declared props p.kind then props else props ++ p ∷ []

-- each property once, at its first declaration
abbrev pub without_repeats : List PropDecl → List PropDecl
without_repeats props = fold kept [] props
