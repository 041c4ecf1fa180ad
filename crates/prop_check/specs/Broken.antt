-- The first declared property that fails.
use Rattle.std.specs.Prelude.{◌≡◌, ◌+◌, ℕ, Bool, true, false, IsTrue, List, ◌∷◌, ◌++◌, length}
use Rattle.std.specs.List.{list_any}
use Rattle.loop_core.specs.declared.decl.PropDecl.{PropDecl}
use Rattle.loop_core.specs.declared.decl.PropKind.{PropKind}
use Rattle.loop_core.specs.declared.decl.PropKind.TheVariants.{Range, Rising, Strict, Injective, Sorted, Below, Upto, Diagonal, Before}
use Rattle.loop_core.specs.Lists.{Lists}
use Rattle.index_props.specs.Meanings.{Passes}
use Rattle.index_props.specs.Places.{FailsAt}
use Rattle.prop_check.specs.declared.check.CheckRefusal.{CheckRefusal}
use Rattle.prop_check.specs.declared.check.CheckRefusal.TheVariants.{Broken, Memory}

-- the property of this number, counted from 1, fails, with these places; all before it hold
pub record FirstBroken (props : List PropDecl) (a : Lists) (property first second : ℕ) : Type 0 where
  pub earlier : List PropDecl
  pub broken : PropDecl
  pub later : List PropDecl
  pub stand : props ≡ earlier ++ broken ∷ later
  pub number : property ≡ length earlier + 1
  pub hold : Passes earlier a
  pub fails : FailsAt a broken.kind first second

abbrev pub is_injective : PropKind → Bool
is_injective (Injective f) = true
is_injective (Range f lo hi) = false
is_injective (Rising p) = false
is_injective (Strict p) = false
is_injective (Sorted f p) = false
is_injective (Below f p) = false
is_injective (Upto f p) = false
is_injective (Diagonal d f p) = false
is_injective (Before f g) = false

-- an `injective` is declared
abbrev pub HasInjective : List PropDecl → Type 0
HasInjective props = IsTrue (list_any (λ p. is_injective p.kind) props)

-- what each refusal says
abbrev pub IsRefusal : List PropDecl → Lists → CheckRefusal → Type 0
IsRefusal props a (Broken property first second) = FirstBroken props a property first second
IsRefusal props a Memory = HasInjective props
