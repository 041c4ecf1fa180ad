-- The lines of declarations, locals and properties.
use Rattle.std.specs.Prelude.{ℕ, nat_lt, if◌then◌else◌, codes, List, [], ◌∷◌, ◌++◌, map}
use Rattle.std.specs.List.{flat_map}
use Rattle.loop_core.specs.declared.decl.Decl.{Decl}
use Rattle.loop_core.specs.declared.decl.Form.TheVariants.{Csr, Csc}
use Rattle.loop_core.specs.declared.decl.Size.{Size}
use Rattle.loop_core.specs.declared.decl.Size.TheVariants.{N, NPlusOne, Nnz}
use Rattle.loop_core.specs.declared.decl.Source.{Source}
use Rattle.loop_core.specs.declared.decl.Source.TheVariants.{File, Zeros}
use Rattle.loop_core.specs.declared.decl.DeclKind.{DeclKind}
use Rattle.loop_core.specs.declared.decl.DeclKind.TheVariants.{Matrix, Index, Vector}
use Rattle.loop_core.specs.declared.decl.LocalDecl.{LocalDecl}
use Rattle.loop_core.specs.declared.decl.PropDecl.{PropDecl}
use Rattle.loop_core.specs.declared.decl.PropKind.{PropKind}
use Rattle.loop_core.specs.declared.decl.PropKind.TheVariants.{Range, Rising, Strict, Injective, Sorted, Below, Upto, Diagonal, Before}
use Rattle.loop_print.specs.PrintNames.{array_name}
use Rattle.loop_print.specs.PrintTerms.{term_text}

abbrev pub size_text : Size → List ℕ
size_text N = codes "n"
size_text NPlusOne = codes "n+1"
size_text Nnz = codes "nnz"

abbrev pub source_text : Source → List ℕ
source_text File = codes "file"
source_text Zeros = codes "zero"

abbrev pub decl_text : List ℕ → DeclKind → List ℕ
decl_text name (Matrix Csr) = codes "matrix " ++ name ++ codes " csr\n"
decl_text name (Matrix Csc) = codes "matrix " ++ name ++ codes " csc\n"
decl_text name (Index size) = codes "index " ++ name ++ codes " " ++ size_text size ++ codes "\n"
decl_text name (Vector size source) = codes "vector " ++ name ++ codes " " ++ size_text size ++ codes " " ++ source_text source ++ codes "\n"

abbrev pub prop_text : List Decl → PropKind → List ℕ
prop_text decls (Range f lo hi) = codes "range " ++ array_name decls f ++ codes " " ++ term_text decls [] lo ++ codes " " ++ term_text decls [] hi ++ codes "\n"
prop_text decls (Rising p) = codes "rising " ++ array_name decls p ++ codes "\n"
prop_text decls (Strict p) = codes "strict " ++ array_name decls p ++ codes "\n"
prop_text decls (Injective f) = codes "injective " ++ array_name decls f ++ codes "\n"
prop_text decls (Sorted f p) = codes "sorted " ++ array_name decls f ++ codes " by " ++ array_name decls p ++ codes "\n"
prop_text decls (Below f p) = codes "below " ++ array_name decls f ++ codes " by " ++ array_name decls p ++ codes "\n"
prop_text decls (Upto f p) = codes "upto " ++ array_name decls f ++ codes " by " ++ array_name decls p ++ codes "\n"
prop_text decls (Diagonal d f p) = codes "diagonal " ++ array_name decls d ++ codes " of " ++ array_name decls f ++ codes " by " ++ array_name decls p ++ codes "\n"
prop_text decls (Before f g) = codes "before " ++ array_name decls f ++ codes " " ++ array_name decls g ++ codes "\n"

-- A line above the loop, with its number.
pub record HeadLine : Type 0 where
  pub number : ℕ
  pub text : List ℕ

abbrev pub decl_line : Decl → HeadLine
decl_line d = record { number = d.line; text = decl_text d.name d.kind }

abbrev pub local_line : LocalDecl → HeadLine
local_line l = record { number = l.line; text = codes "local " ++ l.name ++ codes "\n" }

abbrev pub prop_line : List Decl → PropDecl → HeadLine
prop_line decls p = record { number = p.line; text = prop_text decls p.kind }

-- the leading lines that stand before a number, and those from the first other one on
abbrev pub lines_before : ℕ → List HeadLine → List HeadLine
lines_before number [] = []
lines_before number (h ∷ hs) = if nat_lt h.number number then h ∷ lines_before number hs else []

abbrev pub lines_from : ℕ → List HeadLine → List HeadLine
lines_from number [] = []
lines_from number (h ∷ hs) = if nat_lt h.number number then lines_from number hs else h ∷ hs

-- two lists of lines, each in the order of its numbers, as one such list
abbrev pub merged : List HeadLine → List HeadLine → List HeadLine
merged [] others = others
merged (h ∷ hs) others = lines_before h.number others ++ h ∷ merged hs (lines_from h.number others)

-- The lines of declarations, locals and properties in the order of their numbers. The arrays of a property are
-- numbered by all declarations.
abbrev pub head_lines : List Decl → List Decl → List LocalDecl → List PropDecl → List HeadLine
head_lines all decls locals props = merged (map decl_line decls) (merged (map local_line locals) (map (prop_line all) props))

abbrev pub heads_text : List HeadLine → List ℕ
heads_text heads = flat_map (λ h. h.text) heads
