-- What the fields of a scope are to one another.
use Rattle.std.specs.Prelude.{◌≡◌, ℕ, if◌then◌else◌, List, [], ◌∷◌, map, length, Option, Some, None}
use Rattle.std.specs.HashMap.{HashMap}
use Rattle.std.specs.Str.{bytes_eq}
use Rattle.loop_lines.specs.declared.block.Block.{Block}
use Rattle.loop_lines.specs.declared.block.Block.TheVariants.{Repeated, Guarded}
use Rattle.loop_syntax.specs.declared.scope.Known.{Known}
use Rattle.loop_syntax.specs.declared.scope.Opened.{Opened}
use Rattle.loop_syntax.specs.declared.standing.Key.{Key}
use Rattle.loop_syntax.specs.declared.standing.Standing.{Standing}
use Rattle.loop_syntax.specs.Scope.{found, variables}
use Rattle.loop_syntax.specs.Standing.{standing_of}

-- the line of the innermost loop whose variable has a name
abbrev pub innermost : List ℕ → List Block → Option ℕ
innermost name [] = None
innermost name (Repeated line own ∷ more) = if bytes_eq name own then Some line else innermost name more
innermost name (Guarded ∷ more) = innermost name more

abbrev pub blocks_of : List Opened → List Block
blocks_of blocks = map (λ opened. opened.block) blocks

-- a loop keeps the line of the innermost loop outside it whose variable has the same name
abbrev pub IsOuter : Block → Option ℕ → List Block → Type 0
IsOuter (Repeated line name) outer more = outer ≡ innermost name more
IsOuter Guarded outer more = Unit {0}

abbrev pub AreOuter : List Opened → Type 0
AreOuter [] = Unit {0}
AreOuter (opened ∷ more) = IsOuter opened.block opened.outer (blocks_of more) × AreOuter more

-- the table knows the declared names and the variables, and the loops are counted; blocks stand from the innermost on
pub record KeepsUp {S : Type 0} (table : HashMap Key Standing S) (declared : List Known) (blocks : List Opened) (loops : ℕ) : Type 0 where
  pub known : (name : List ℕ) → (standing_of table name).declared ≡ found name declared
  pub variable : (name : List ℕ) → (standing_of table name).variable ≡ innermost name (blocks_of blocks)
  pub outer : AreOuter blocks
  pub counted : loops ≡ length (variables (blocks_of blocks))
