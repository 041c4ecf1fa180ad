-- The names of arrays, locals and variables in a text.
use Rattle.std.specs.Prelude.{ℕ, ◌==◌, if◌then◌else◌, codes, slice_index_or, List, [], ◌∷◌, ◌++◌, map}
use Rattle.wave_base.specs.declared.types.ArrayId.{ArrayId}
use Rattle.loop_core.specs.declared.decl.Decl.{Decl}
use Rattle.loop_core.specs.declared.decl.LocalDecl.{LocalDecl}
use Rattle.loop_core.specs.declared.decl.Form.TheVariants.{Csr, Csc}
use Rattle.loop_core.specs.declared.decl.DeclKind.{DeclKind}
use Rattle.loop_core.specs.declared.decl.DeclKind.TheVariants.{Matrix, Index, Vector}
pub use Rattle.loop_lines.specs.declared.block.Block.{Block}
pub use Rattle.loop_lines.specs.declared.block.Block.TheVariants.{Repeated, Guarded}

-- the names of the arrays that a declaration gives, in the order of their numbers
abbrev pub names_of : List ℕ → DeclKind → List (List ℕ)
names_of name (Matrix Csr) = (name ++ codes ".ptr") ∷ (name ++ codes ".col") ∷ (name ++ codes ".diag") ∷ (name ++ codes ".val") ∷ []
names_of name (Matrix Csc) = (name ++ codes ".ptr") ∷ (name ++ codes ".row") ∷ (name ++ codes ".diag") ∷ (name ++ codes ".val") ∷ []
names_of name (Index size) = name ∷ []
names_of name (Vector size source) = name ∷ []

abbrev pub array_names : List Decl → List (List ℕ)
array_names [] = []
array_names (d ∷ more) = names_of d.name d.kind ++ array_names more

-- the name of an array, which is empty where no declaration has its number
abbrev pub array_name : List Decl → ArrayId → List ℕ
array_name decls array = slice_index_or (array_names decls) array.0 []

-- the name of a local, which is empty where no declaration has its number
abbrev pub local_name : List LocalDecl → ℕ → List ℕ
local_name locals local = slice_index_or (map (λ l. l.name) locals) local []

-- the name of the variable of the innermost loop at a line, which is empty where there is none
abbrev pub variable_name : List Block → ℕ → List ℕ
variable_name [] at = []
variable_name (Repeated line name ∷ more) at = if line == at then name else variable_name more at
variable_name (Guarded ∷ more) at = variable_name more at
