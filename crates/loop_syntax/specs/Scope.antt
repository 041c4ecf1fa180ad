-- What names stand for on a line.
use Rattle.std.specs.Prelude.{ℕ, ◌+◌, if◌then◌else◌, codes, List, [], ◌∷◌, ◌++◌, Option, Some, None}
use Rattle.std.specs.Str.{bytes_eq}
use Rattle.loop_core.specs.declared.decl.Form.{Form}
use Rattle.loop_core.specs.declared.decl.Form.TheVariants.{Csr, Csc}
use Rattle.loop_core.specs.declared.decl.Size.TheVariants as sizes
use Rattle.loop_lines.specs.declared.line.Line.{Line}
use Rattle.loop_lines.specs.declared.line.Line.TheVariants as lines
use Rattle.loop_lines.specs.declared.tree.ArrayName.{ArrayName}
use Rattle.loop_lines.specs.declared.tree.ArrayName.TheVariants.{Own, Dotted}
use Rattle.loop_syntax.specs.declared.scope.Meaning.{Meaning}
use Rattle.loop_syntax.specs.declared.scope.Meaning.TheVariants as meanings
use Rattle.loop_syntax.specs.declared.scope.ArrayUse.{ArrayUse}
use Rattle.loop_syntax.specs.declared.scope.ArrayUse.TheVariants as uses
use Rattle.loop_syntax.specs.declared.numbered.Numbered.{Numbered}
use Rattle.loop_lines.specs.declared.block.Block.{Block}
use Rattle.loop_lines.specs.declared.block.Block.TheVariants.{Repeated, Guarded}
use Rattle.loop_syntax.specs.declared.scope.Known.{Known}
use Rattle.loop_syntax.specs.declared.scope.Parts.{Parts}

-- what the lines above a line leave: the declared names in the order of the text, the numbers of their arrays and of
-- their locals, and the open blocks, the innermost first
pub record Scope : Type 0 where
  pub declared : List Known
  pub arrays : ℕ
  pub locals : ℕ
  pub blocks : List Block

abbrev pub empty : Scope
empty = record { declared = []; arrays = 0; locals = 0; blocks = [] }

-- the variables of open loops
abbrev pub variables : List Block → List Known
variables [] = []
variables (Repeated line name ∷ more) = record { name = name; meaning = meanings.Variable line } ∷ variables more
variables (Guarded ∷ more) = variables more

abbrev pub known : Scope → List Known
known s = variables s.blocks ++ s.declared

abbrev pub found : List ℕ → List Known → Option Meaning
found name [] = None
found name (k ∷ more) = if bytes_eq name k.name then Some k.meaning else found name more

-- what a name stands for, where it is known
abbrev pub meaning_of : Scope → List ℕ → Option Meaning
meaning_of s name = found name (known s)

-- What a line adds.

-- a declared name, and the arrays and locals that come with it
abbrev pub declared : Scope → List ℕ → Meaning → ℕ → ℕ → Scope
declared s name meaning arrays locals = record { declared = s.declared ++ record { name = name; meaning = meaning } ∷ []; arrays = s.arrays + arrays; locals = s.locals + locals; blocks = s.blocks }

abbrev pub opened : Scope → Block → Scope
opened s block = record { declared = s.declared; arrays = s.arrays; locals = s.locals; blocks = block ∷ s.blocks }

abbrev pub outer_blocks : List Block → List Block
outer_blocks [] = []
outer_blocks (block ∷ more) = more

abbrev pub closed : Scope → Scope
closed s = record { declared = s.declared; arrays = s.arrays; locals = s.locals; blocks = outer_blocks s.blocks }

-- the four arrays of a matrix have the next numbers
abbrev pub parts_from : ℕ → Parts
parts_from n = record { ptr = n; index = n + 1; diag = n + 2; val = n + 3 }

abbrev pub scope_behind : Scope → ℕ → Line → Scope
scope_behind s n (lines.Matrix name form) = declared s name (meanings.Matrix form (parts_from s.arrays)) 4 0
scope_behind s n (lines.Index name size) = declared s name (meanings.Indexes size s.arrays) 1 0
scope_behind s n (lines.Vector name size source) = declared s name (meanings.Holds size s.arrays) 1 0
scope_behind s n (lines.Local name) = declared s name (meanings.Local s.locals) 0 1
scope_behind s n (lines.Prop prop) = s
scope_behind s n (lines.Loop name) = opened s (Repeated n name)
scope_behind s n (lines.For name lo hi) = opened s (Repeated n name)
scope_behind s n (lines.When rel left right) = opened s Guarded
scope_behind s n (lines.Set array at value) = s
scope_behind s n (lines.Keep name value) = s
scope_behind s n lines.End = closed s

abbrev pub scope_after : Scope → Numbered → Scope
scope_after s l = scope_behind s l.number l.line

-- What stands where an array is named.

abbrev pub index_part : Form → List ℕ
index_part Csr = codes "col"
index_part Csc = codes "row"

-- an array of a matrix
abbrev pub part_use : Form → Parts → List ℕ → ArrayUse
part_use form parts part = if bytes_eq part (codes "ptr") then uses.Indexes sizes.NPlusOne parts.ptr else (if bytes_eq part (index_part form) then uses.Indexes sizes.Nnz parts.index else (if bytes_eq part (codes "diag") then uses.Indexes sizes.N parts.diag else (if bytes_eq part (codes "val") then uses.Holds sizes.Nnz parts.val else uses.Unknown)))

abbrev pub own_use : Option Meaning → ArrayUse
own_use None = uses.Unknown
own_use (Some (meanings.Matrix form parts)) = uses.Other
own_use (Some (meanings.Indexes size number)) = uses.Indexes size number
own_use (Some (meanings.Holds size number)) = uses.Holds size number
own_use (Some (meanings.Variable line)) = uses.Other
own_use (Some (meanings.Local number)) = uses.Other

abbrev pub dotted_use : Option Meaning → List ℕ → ArrayUse
dotted_use (Some (meanings.Matrix form parts)) part = part_use form parts part
dotted_use _ part = uses.Unknown

abbrev pub use_of : Scope → ArrayName → ArrayUse
use_of s (Own name) = own_use (meaning_of s name)
use_of s (Dotted matrix part) = dotted_use (meaning_of s matrix) part
