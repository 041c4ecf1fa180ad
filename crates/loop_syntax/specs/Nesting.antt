-- Nested items as the lines that they are written on.
use Rattle.std.specs.Prelude.{ℕ, List, [], ◌∷◌, ◌++◌, map}
use Rattle.std.specs.List.{flat_map}
use Rattle.wave_base.specs.declared.types.ArrayId.{ArrayId}
use Rattle.loop_core.specs.declared.nest.Term.{Term}
use Rattle.loop_core.specs.declared.nest.Expr.{Expr}
use Rattle.loop_core.specs.declared.nest.Item.{Item}
use Rattle.loop_core.specs.declared.nest.Item.TheOpen.{Item-F}
use Rattle.loop_core.specs.declared.nest.Item.TheFolds.{fold-Item}
use Rattle.loop_syntax.specs.declared.items.Head.{Head}
use Rattle.loop_syntax.specs.declared.items.Head.TheVariants as heads
use Rattle.loop_syntax.specs.declared.items.OpenBlock.{OpenBlock}

-- a line of the loop: the first of a block, a statement, or the end of a block
pub data Mark : Type 0 where
  Opens : ℕ → Head → Mark
  Sets : ℕ → ArrayId → Term → Expr → Mark
  Keeps : ℕ → ℕ → Expr → Mark
  Ends : Mark

abbrev pub joined : List (List Mark) → List Mark
joined lists = flat_map (λ list. list) lists

abbrev pub marks_step : Item-F (List Mark) → List Mark
marks_step (Item-F.For line name lo hi body) = Opens line (heads.For name lo hi) ∷ (joined body ++ Ends ∷ [])
marks_step (Item-F.When line rel left right body) = Opens line (heads.When rel left right) ∷ (joined body ++ Ends ∷ [])
marks_step (Item-F.Set line array at value) = Sets line array at value ∷ []
marks_step (Item-F.Keep line local value) = Keeps line local value ∷ []

-- the lines of an item, from its first to its end
abbrev pub item_marks : Item → List Mark
item_marks = fold-Item (List Mark) marks_step

-- the lines of items, in the order of the text
abbrev pub marks : List Item → List Mark
marks items = joined (map item_marks items)

-- the lines of open blocks, the outermost first, each up to the first line of the block
abbrev pub open_marks : List OpenBlock → List Mark
open_marks [] = []
open_marks (o ∷ os) = marks o.before ++ Opens o.line o.head ∷ open_marks os

-- the lines of open blocks and of the items after them
abbrev pub so_far : List OpenBlock → List Item → List Mark
so_far around items = open_marks around ++ marks items
