-- The texts of names, declarations, locals and properties are ASCII where the declared names are names.
use Rattle.std.proofs.Common.{◌≡◌, ℕ, zero, suc, true, false, nat_lt, if◌then◌else◌, List, [], ◌∷◌, ◌++◌, refl, map, slice_index_or, codes}
use Rattle.std.specs.List.{list_all}
use Rattle.wave_base.specs.declared.types.ArrayId.{ArrayId}
use Rattle.loop_core.specs.declared.decl.Decl.{Decl}
use Rattle.loop_core.specs.declared.decl.Form.TheVariants.{Csr, Csc}
use Rattle.loop_core.specs.declared.decl.Size.{Size}
use Rattle.loop_core.specs.declared.decl.Size.TheVariants.{N, NPlusOne, Nnz}
use Rattle.loop_core.specs.declared.decl.Source.{Source}
use Rattle.loop_core.specs.declared.decl.Source.TheVariants.{File, Zeros}
use Rattle.loop_core.specs.declared.decl.DeclKind.{DeclKind}
use Rattle.loop_core.specs.declared.decl.DeclKind.TheVariants.{Matrix, Index, Vector}
use Rattle.loop_core.specs.declared.decl.LocalDecl.{LocalDecl}
use Rattle.loop_core.specs.declared.decl.PropDecl.{PropDecl}
use Rattle.loop_core.specs.declared.decl.PropKind.{PropKind}
use Rattle.loop_core.specs.declared.decl.PropKind.TheVariants.{Range, Rising, Strict, Injective, Sorted, Below, Upto, Diagonal, Before}
use Rattle.loop_core.specs.declared.nest.Term.{Term}
use Rattle.loop_lines.specs.Plain.{is_plain}
use Rattle.loop_print.specs.PrintNames.{names_of, array_names, array_name, local_name}
use Rattle.loop_print.specs.PrintTerms.{term_text}
use Rattle.loop_print.specs.PrintHeads.{size_text, source_text, decl_text, prop_text, HeadLine, decl_line, local_line, prop_line, lines_before, lines_from, merged, head_lines, heads_text}
use Rattle.loop_lines.proofs.Bools.{and_left, and_right}
use Rattle.loop_print.proofs.PrintAscii.{Small, word, ◌&◌, name_small}
use Rattle.loop_print.proofs.PrintTermsAscii.{term_small}

-- each of the texts
data AllSmall : List (List ℕ) → Type 0 where
  none : AllSmall []
  more : (t : List ℕ) (ts : List (List ℕ)) → Small t → AllSmall ts → AllSmall (t ∷ ts)

both : (xs ys : List (List ℕ)) → AllSmall xs → AllSmall ys → AllSmall (xs ++ ys)
both _ ys none k = k
both _ ys (more t ts h hs) k = more t (ts ++ ys) h (both ts ys hs k)

small_at : (names : List (List ℕ)) (k : ℕ) → AllSmall names → Small (slice_index_or names k [])
small_at _ zero none = word [] refl
small_at _ (suc k) none = word [] refl
small_at _ zero (more t ts h hs) = h
small_at _ (suc k) (more t ts h hs) = small_at ts k hs

four : (a b c d : List ℕ) → Small a → Small b → Small c → Small d → AllSmall (a ∷ b ∷ c ∷ d ∷ [])
four a b c d ha hb hc hd = more a (b ∷ c ∷ d ∷ []) ha (more b (c ∷ d ∷ []) hb (more c (d ∷ []) hc (more d [] hd none)))

names_of_small : (name : List ℕ) (kind : DeclKind) → Small name → AllSmall (names_of name kind)
names_of_small name (Matrix Csr) h =
    four (name ++ codes ".ptr") (name ++ codes ".col") (name ++ codes ".diag") (name ++ codes ".val")
    (h & word (codes ".ptr") refl) (h & word (codes ".col") refl) (h & word (codes ".diag") refl) (h & word (codes ".val") refl)
names_of_small name (Matrix Csc) h =
    four (name ++ codes ".ptr") (name ++ codes ".row") (name ++ codes ".diag") (name ++ codes ".val")
    (h & word (codes ".ptr") refl) (h & word (codes ".row") refl) (h & word (codes ".diag") refl) (h & word (codes ".val") refl)
names_of_small name (Index size) h = more name [] h none
names_of_small name (Vector size source) h = more name [] h none

-- the names of the declarations are names
abbrev pub AreNamed : List Decl → Type 0
AreNamed decls = list_all is_plain (map (λ d. d.name) decls) ≡ true

first_named : (d : Decl) (ds : List Decl) → AreNamed (d ∷ ds) → Small d.name
first_named d ds h = name_small d.name (and_left (is_plain d.name) (list_all is_plain (map (λ d'. d'.name) ds)) h)

rest_named : (d : Decl) (ds : List Decl) → AreNamed (d ∷ ds) → AreNamed ds
rest_named d ds h = and_right (is_plain d.name) (list_all is_plain (map (λ d'. d'.name) ds)) h

array_names_small : (decls : List Decl) → AreNamed decls → AllSmall (array_names decls)
array_names_small [] h = none
array_names_small (d ∷ ds) h =
    both (names_of d.name d.kind) (array_names ds) (names_of_small d.name d.kind (first_named d ds h)) (array_names_small ds (rest_named d ds h))

pub array_small : (decls : List Decl) → AreNamed decls → (array : ArrayId) → Small (array_name decls array)
array_small decls h array = small_at (array_names decls) array.0 (array_names_small decls h)

-- the names of the locals are names
abbrev pub LocalsNamed : List LocalDecl → Type 0
LocalsNamed locals = list_all is_plain (map (λ l. l.name) locals) ≡ true

local_names_small : (locals : List LocalDecl) → LocalsNamed locals → AllSmall (map (λ l. l.name) locals)
local_names_small [] h = none
local_names_small (l ∷ ls) h =
    let rest = map (λ l'. l'.name) ls in
    more l.name rest (name_small l.name (and_left (is_plain l.name) (list_all is_plain rest) h)) (local_names_small ls (and_right (is_plain l.name) (list_all is_plain rest) h))

pub local_small : (locals : List LocalDecl) → LocalsNamed locals → (local : ℕ) → Small (local_name locals local)
local_small locals h local = small_at (map (λ l. l.name) locals) local (local_names_small locals h)

size_small : (size : Size) → Small (size_text size)
size_small N = word (codes "n") refl
size_small NPlusOne = word (codes "n+1") refl
size_small Nnz = word (codes "nnz") refl

source_small : (source : Source) → Small (source_text source)
source_small File = word (codes "file") refl
source_small Zeros = word (codes "zero") refl

decl_small : (name : List ℕ) (kind : DeclKind) → Small name → Small (decl_text name kind)
decl_small name (Matrix Csr) h = word (codes "matrix ") refl & h & word (codes " csr\n") refl
decl_small name (Matrix Csc) h = word (codes "matrix ") refl & h & word (codes " csc\n") refl
decl_small name (Index size) h = word (codes "index ") refl & h & word (codes " ") refl & size_small size & word (codes "\n") refl
decl_small name (Vector size source) h =
    word (codes "vector ") refl & h & word (codes " ") refl & size_small size & word (codes " ") refl & source_small source & word (codes "\n") refl

-- each of the lines
data SmallLines : List HeadLine → Type 0 where
  no_lines : SmallLines []
  a_line : (h : HeadLine) (hs : List HeadLine) → Small h.text → SmallLines hs → SmallLines (h ∷ hs)

lines_both : (xs ys : List HeadLine) → SmallLines xs → SmallLines ys → SmallLines (xs ++ ys)
lines_both _ ys no_lines k = k
lines_both _ ys (a_line h hs t ts) k = a_line h (hs ++ ys) t (lines_both hs ys ts k)

before_small : (n : ℕ) (hs : List HeadLine) → SmallLines hs → SmallLines (lines_before n hs)
before_small n _ no_lines = no_lines
before_small n _ (a_line h hs t ts) =
    elim (nat_lt h.number n) as (λ b. SmallLines (if b then h ∷ lines_before n hs else [])) [ true ↦ a_line h (lines_before n hs) t (before_small n hs ts) | false ↦ no_lines ]

from_small : (n : ℕ) (hs : List HeadLine) → SmallLines hs → SmallLines (lines_from n hs)
from_small n _ no_lines = no_lines
from_small n _ (a_line h hs t ts) =
    elim (nat_lt h.number n) as (λ b. SmallLines (if b then lines_from n hs else h ∷ hs)) [ true ↦ from_small n hs ts | false ↦ a_line h hs t ts ]

merged_small : (xs ys : List HeadLine) → SmallLines xs → SmallLines ys → SmallLines (merged xs ys)
merged_small _ ys no_lines k = k
merged_small _ ys (a_line h hs t ts) k =
    let others = lines_from h.number ys in
    lines_both (lines_before h.number ys) (h ∷ merged hs others) (before_small h.number ys k) (a_line h (merged hs others) t (merged_small hs others ts (from_small h.number ys k)))

text_small : (hs : List HeadLine) → SmallLines hs → Small (heads_text hs)
text_small _ no_lines = word [] refl
text_small _ (a_line h hs t ts) = t & text_small hs ts

module _ (all : List Decl) (arrays : (array : ArrayId) → Small (array_name all array)) where
  bound_small : (t : Term) → Small (term_text all [] t)
  bound_small = term_small all [] arrays (λ line. word [] refl)

  prop_small : (kind : PropKind) → Small (prop_text all kind)
  prop_small (Range f lo hi) =
      word (codes "range ") refl & arrays f & word (codes " ") refl & bound_small lo & word (codes " ") refl & bound_small hi & word (codes "\n") refl
  prop_small (Rising p) = word (codes "rising ") refl & arrays p & word (codes "\n") refl
  prop_small (Strict p) = word (codes "strict ") refl & arrays p & word (codes "\n") refl
  prop_small (Injective f) = word (codes "injective ") refl & arrays f & word (codes "\n") refl
  prop_small (Sorted f p) = word (codes "sorted ") refl & arrays f & word (codes " by ") refl & arrays p & word (codes "\n") refl
  prop_small (Below f p) = word (codes "below ") refl & arrays f & word (codes " by ") refl & arrays p & word (codes "\n") refl
  prop_small (Upto f p) = word (codes "upto ") refl & arrays f & word (codes " by ") refl & arrays p & word (codes "\n") refl
  prop_small (Diagonal d f p) =
      word (codes "diagonal ") refl & arrays d & word (codes " of ") refl & arrays f & word (codes " by ") refl & arrays p & word (codes "\n") refl
  prop_small (Before f g) = word (codes "before ") refl & arrays f & word (codes " ") refl & arrays g & word (codes "\n") refl

  decls_small : (decls : List Decl) → AreNamed decls → SmallLines (map decl_line decls)
  decls_small [] h = no_lines
  decls_small (d ∷ ds) h = a_line (decl_line d) (map decl_line ds) (decl_small d.name d.kind (first_named d ds h)) (decls_small ds (rest_named d ds h))

  locals_small : (locals : List LocalDecl) → LocalsNamed locals → SmallLines (map local_line locals)
  locals_small [] h = no_lines
  locals_small (l ∷ ls) h =
      let rest = list_all is_plain (map (λ l'. l'.name) ls) in
      let name = name_small l.name (and_left (is_plain l.name) rest h) in
      a_line (local_line l) (map local_line ls) (word (codes "local ") refl & name & word (codes "\n") refl) (locals_small ls (and_right (is_plain l.name) rest h))

  props_small : (props : List PropDecl) → SmallLines (map (prop_line all) props)
  props_small [] = no_lines
  props_small (p ∷ ps) = a_line (prop_line all p) (map (prop_line all) ps) (prop_small p.kind) (props_small ps)

  pub heads_small : (decls : List Decl) (locals : List LocalDecl) (props : List PropDecl) → AreNamed decls → LocalsNamed locals → Small (heads_text (head_lines all decls locals props))
  heads_small decls locals props h k =
      text_small (head_lines all decls locals props)
      (merged_small (map decl_line decls) (merged (map local_line locals) (map (prop_line all) props)) (decls_small decls h)
      (merged_small (map local_line locals) (map (prop_line all) props) (locals_small locals k) (props_small props)))
