-- What names stand for is declared: each array has the number, the size and the kind that its declaration gives.
use Rattle.std.proofs.Common.{◌≡◌, ℕ, zero, suc, ◌+◌, Bool, true, false, if◌then◌else◌, codes, List, [], ◌∷◌, ◌++◌, drop, Option, Some, None, refl, ap, ◌∙◌, arith}
use Rattle.std.specs.Prelude.{slice_get}
use Rattle.std.specs.Option.{option_map_or}
use Rattle.std.specs.Str.{bytes_eq}
use Rattle.wave_base.specs.declared.types.ArrayId.{ArrayId}
use Rattle.loop_core.specs.declared.decl.Decl.{Decl}
use Rattle.loop_core.specs.declared.decl.Form.{Form}
use Rattle.loop_core.specs.declared.decl.Size.{Size}
use Rattle.loop_core.specs.declared.decl.Size.TheVariants.{N, NPlusOne, Nnz}
use Rattle.loop_core.specs.Sizes.{Kind, Places, Data, sizes, kinds, holds_places, holds_data, is_index, is_data}
use Rattle.loop_lines.specs.declared.line.Line.{Line}
use Rattle.loop_lines.specs.declared.line.Line.TheVariants as lines
use Rattle.loop_lines.specs.declared.tree.ArrayName.{ArrayName}
use Rattle.loop_lines.specs.declared.tree.ArrayName.TheVariants.{Own, Dotted}
use Rattle.loop_syntax.specs.declared.numbered.Numbered.{Numbered}
use Rattle.loop_syntax.specs.declared.scope.Meaning.{Meaning}
use Rattle.loop_syntax.specs.declared.scope.Meaning.TheVariants as meanings
use Rattle.loop_syntax.specs.declared.scope.ArrayUse.{ArrayUse}
use Rattle.loop_syntax.specs.declared.scope.ArrayUse.TheVariants as uses
use Rattle.loop_syntax.specs.declared.scope.Known.{Known}
use Rattle.loop_syntax.specs.declared.scope.Parts.{Parts}
use Rattle.loop_lines.specs.declared.block.Block.{Block}
use Rattle.loop_lines.specs.declared.block.Block.TheVariants.{Repeated, Guarded}
use Rattle.loop_syntax.specs.Scope.{Scope, empty, variables, known, found, meaning_of, parts_from, scope_behind, index_part, part_use, own_use, dotted_use, use_of}
use Rattle.loop_syntax.specs.NameRules.{index_fault, data_fault, target_fault}
use Rattle.loop_syntax.specs.Resolved.{number_of}
use Rattle.loop_laws.proofs.ShownNames.{decls_from}

-- ---- what a meaning says of the declarations

-- the array with this number has this size and this kind
abbrev pub IsAt : List Decl → ℕ → Size → Kind → Type 0
IsAt ds number size kind = (slice_get (sizes ds) number ≡ Some size) × (slice_get (kinds ds) number ≡ Some kind)

abbrev IsMeant : List Decl → Meaning → Type 0
IsMeant ds (meanings.Matrix form parts) = IsAt ds parts.ptr NPlusOne Places × IsAt ds parts.index Nnz Places × IsAt ds parts.diag N Places × IsAt ds parts.val Nnz Data
IsMeant ds (meanings.Indexes size number) = IsAt ds number size Places
IsMeant ds (meanings.Holds size number) = IsAt ds number size Data
IsMeant ds (meanings.Variable line) = Unit {0}
IsMeant ds (meanings.Local number) = Unit {0}

abbrev AreMeant : List Decl → List Known → Type 0
AreMeant ds [] = Unit {0}
AreMeant ds (k ∷ ks) = IsMeant ds k.meaning × AreMeant ds ks

meant_both : (ds : List Decl) (xs ys : List Known) → AreMeant ds xs → AreMeant ds ys → AreMeant ds (xs ++ ys)
meant_both ds [] ys h k = k
meant_both ds (x ∷ xs) ys h k = (h.0, meant_both ds xs ys h.1 k)

variables_meant : (ds : List Decl) (bs : List Block) → AreMeant ds (variables bs)
variables_meant ds [] = tt
variables_meant ds (Repeated line name ∷ bs) = (tt, variables_meant ds bs)
variables_meant ds (Guarded ∷ bs) = variables_meant ds bs

-- ---- what is found is declared

abbrev IsMeantIf : List Decl → Option Meaning → Type 0
IsMeantIf ds None = Unit {0}
IsMeantIf ds (Some m) = IsMeant ds m

chosen : {X : Type 0} (P : X → Type 0) (b : Bool) (u v : X) → P u → P v → P (if b then u else v)
chosen P true u v f g = f
chosen P false u v f g = g

found_meant : (ds : List Decl) (name : List ℕ) (ks : List Known) → AreMeant ds ks → IsMeantIf ds (found name ks)
found_meant ds name [] h = tt
found_meant ds name (k ∷ ks) h = chosen (λ o. IsMeantIf ds o) (bytes_eq name k.name) (Some k.meaning) (found name ks) h.0 (found_meant ds name ks h.1)

-- the array that stands where a name does is a declared one
abbrev pub IsUse : List Decl → ArrayUse → Type 0
IsUse ds uses.Unknown = Unit {0}
IsUse ds uses.Other = Unit {0}
IsUse ds (uses.Indexes size number) = IsAt ds number size Places
IsUse ds (uses.Holds size number) = IsAt ds number size Data

own_used : (ds : List Decl) (o : Option Meaning) → IsMeantIf ds o → IsUse ds (own_use o)
own_used ds None h = tt
own_used ds (Some (meanings.Matrix form parts)) h = tt
own_used ds (Some (meanings.Indexes size number)) h = h
own_used ds (Some (meanings.Holds size number)) h = h
own_used ds (Some (meanings.Variable line)) h = tt
own_used ds (Some (meanings.Local number)) h = tt

part_used : (ds : List Decl) (form : Form) (parts : Parts) (part : List ℕ) → IsMeant ds (meanings.Matrix form parts) → IsUse ds (part_use form parts part)
part_used ds form parts part h =
    let P : ArrayUse → Type 0 = λ u. IsUse ds u in
    let val : ArrayUse = if bytes_eq part (codes "val") then uses.Holds Nnz parts.val else uses.Unknown in
    let diag : ArrayUse = if bytes_eq part (codes "diag") then uses.Indexes N parts.diag else val in
    let index : ArrayUse = if bytes_eq part (index_part form) then uses.Indexes Nnz parts.index else diag in
    let last = chosen P (bytes_eq part (codes "val")) (uses.Holds Nnz parts.val) uses.Unknown h.3 tt in
    let third = chosen P (bytes_eq part (codes "diag")) (uses.Indexes N parts.diag) val h.2 last in
    let second = chosen P (bytes_eq part (index_part form)) (uses.Indexes Nnz parts.index) diag h.1 third in
    chosen P (bytes_eq part (codes "ptr")) (uses.Indexes NPlusOne parts.ptr) index h.0 second

dotted_used : (ds : List Decl) (part : List ℕ) (o : Option Meaning) → IsMeantIf ds o → IsUse ds (dotted_use o part)
dotted_used ds part None h = tt
dotted_used ds part (Some (meanings.Matrix form parts)) h = part_used ds form parts part h
dotted_used ds part (Some (meanings.Indexes size number)) h = tt
dotted_used ds part (Some (meanings.Holds size number)) h = tt
dotted_used ds part (Some (meanings.Variable line)) h = tt
dotted_used ds part (Some (meanings.Local number)) h = tt

-- ---- scopes

-- the lines above gave the arrays below the scope's number, and these lines give the others
pub record Declares (ds : List Decl) (s : Scope) (ls : List Numbered) : Type 0 where
  pub sizes_left : drop s.arrays (sizes ds) ≡ sizes (decls_from s ls)
  pub kinds_left : drop s.arrays (kinds ds) ≡ kinds (decls_from s ls)
  pub meant : AreMeant ds s.declared

-- each array that can be named is a declared one
abbrev pub AreUses : List Decl → Scope → Type 0
AreUses ds s = (array : ArrayName) → IsUse ds (use_of s array)

pub are_uses : (ds : List Decl) (s : Scope) (ls : List Numbered) → Declares ds s ls → AreUses ds s
are_uses ds s ls h (Own name) = own_used ds (meaning_of s name) (found_meant ds name (known s) (meant_both ds (variables s.blocks) s.declared (variables_meant ds s.blocks) h.meant))
are_uses ds s ls h (Dotted matrix part) =
    dotted_used ds part (meaning_of s matrix) (found_meant ds matrix (known s) (meant_both ds (variables s.blocks) s.declared (variables_meant ds s.blocks) h.meant))

-- ---- line by line

here : {X : Type 0} (n : ℕ) (xs : List X) (x : X) (rest : List X) → drop n xs ≡ x ∷ rest → slice_get xs n ≡ Some x
here {X = X} zero xs x rest e = ap (λ (l : List X). slice_get l 0) e
here (suc n) [] x rest e = absurd cc
here (suc n) (y ∷ xs) x rest e = here n xs x rest e

next : {X : Type 0} (n : ℕ) (xs : List X) (x : X) (rest : List X) → drop n xs ≡ x ∷ rest → drop (suc n) xs ≡ rest
next zero xs x rest e = ap (drop 1) e
next (suc n) [] x rest e = absurd cc
next (suc n) (y ∷ xs) x rest e = next n xs x rest e

behind : {X : Type 0} (n m : ℕ) (xs : List X) (x : X) (rest : List X) → m ≡ suc n → drop n xs ≡ x ∷ rest → drop m xs ≡ rest
behind n m xs x rest is e = ap (λ (k : ℕ). drop k xs) is ∙ next n xs x rest e

-- four elements from a place on
abbrev AreFour : {X : Type 0} → List X → ℕ → X → X → X → X → List X → Type 0
AreFour xs n a b c d rest = (slice_get xs n ≡ Some a) × (slice_get xs (n + 1) ≡ Some b) × (slice_get xs (n + 2) ≡ Some c) × (slice_get xs (n + 3) ≡ Some d) × (drop (n + 4) xs ≡ rest)

four : {X : Type 0} (n : ℕ) (xs : List X) (a b c d : X) (rest : List X) → drop n xs ≡ a ∷ b ∷ c ∷ d ∷ rest → AreFour xs n a b c d rest
four n xs a b c d rest e =
    let f = behind n (n + 1) xs a (b ∷ c ∷ d ∷ rest) (omega arith) e in
    let g = behind (n + 1) (n + 2) xs b (c ∷ d ∷ rest) (omega arith) f in
    let h = behind (n + 2) (n + 3) xs c (d ∷ rest) (omega arith) g in
    (here n xs a (b ∷ c ∷ d ∷ rest) e, here (n + 1) xs b (c ∷ d ∷ rest) f, here (n + 2) xs c (d ∷ rest) g, here (n + 3) xs d rest h, behind (n + 3) (n + 4) xs d rest (omega arith) h)

abbrev with : List Known → List ℕ → Meaning → List Known
with known name meaning = known ++ record { name = name; meaning = meaning } ∷ []

meant_more : (ds : List Decl) (known : List Known) (name : List ℕ) (meaning : Meaning) → AreMeant ds known → IsMeant ds meaning → AreMeant ds (with known name meaning)
meant_more ds known name meaning h is = meant_both ds known (record { name = name; meaning = meaning } ∷ []) h (is, tt)

-- one array, and those after it
one_behind : (ds rest : List Decl) (s : Scope) (name : List ℕ) (meaning : Meaning) (size : Size) (kind : Kind)
    → drop s.arrays (sizes ds) ≡ size ∷ sizes rest → drop s.arrays (kinds ds) ≡ kind ∷ kinds rest → AreMeant ds s.declared → (IsAt ds s.arrays size kind → IsMeant ds meaning)
    → (drop (s.arrays + 1) (sizes ds) ≡ sizes rest) × (drop (s.arrays + 1) (kinds ds) ≡ kinds rest) × AreMeant ds (with s.declared name meaning)
one_behind ds rest s name meaning size kind e f h is =
    let at : IsAt ds s.arrays size kind = (here s.arrays (sizes ds) size (sizes rest) e, here s.arrays (kinds ds) kind (kinds rest) f) in
    let left = behind s.arrays (s.arrays + 1) (sizes ds) size (sizes rest) (omega arith) e in
    (left, behind s.arrays (s.arrays + 1) (kinds ds) kind (kinds rest) (omega arith) f, meant_more ds s.declared name meaning h (is at))

none_more : {X : Type 0} (n : ℕ) (xs : List X) → drop (n + 0) xs ≡ drop n xs
none_more n xs = ap (λ (k : ℕ). drop k xs) (omega arith)

pub declares_behind : (ds : List Decl) (s : Scope) (n : ℕ) (l : Line) (ls : List Numbered) → Declares ds s (record { number = n; line = l } ∷ ls) → Declares ds (scope_behind s n l) ls
declares_behind ds s n (lines.Matrix name form) ls h =
    let rest = decls_from (scope_behind s n (lines.Matrix name form)) ls in
    let e = four s.arrays (sizes ds) NPlusOne Nnz N Nnz (sizes rest) h.sizes_left in
    let f = four s.arrays (kinds ds) Places Places Places Data (kinds rest) h.kinds_left in
    let four_meant = meant_more ds s.declared name (meanings.Matrix form (parts_from s.arrays)) h.meant ((e.0, f.0), (e.1, f.1), (e.2, f.2), (e.3, f.3)) in
    record { sizes_left = e.4; kinds_left = f.4; meant = four_meant }
declares_behind ds s n (lines.Index name size) ls h =
    let rest = decls_from (scope_behind s n (lines.Index name size)) ls in
    let d = one_behind ds rest s name (meanings.Indexes size s.arrays) size Places h.sizes_left h.kinds_left h.meant (λ at. at) in
    record { sizes_left = d.0; kinds_left = d.1; meant = d.2 }
declares_behind ds s n (lines.Vector name size source) ls h =
    let rest = decls_from (scope_behind s n (lines.Vector name size source)) ls in
    let d = one_behind ds rest s name (meanings.Holds size s.arrays) size Data h.sizes_left h.kinds_left h.meant (λ at. at) in
    record { sizes_left = d.0; kinds_left = d.1; meant = d.2 }
declares_behind ds s n (lines.Local name) ls h =
    record { sizes_left = none_more s.arrays (sizes ds) ∙ h.sizes_left; kinds_left = none_more s.arrays (kinds ds) ∙ h.kinds_left; meant = meant_more ds s.declared name (meanings.Local s.locals) h.meant tt }
declares_behind ds s n (lines.Prop prop) ls h = record { sizes_left = h.sizes_left; kinds_left = h.kinds_left; meant = h.meant }
declares_behind ds s n (lines.Loop name) ls h = record { sizes_left = h.sizes_left; kinds_left = h.kinds_left; meant = h.meant }
declares_behind ds s n (lines.For name lo hi) ls h = record { sizes_left = h.sizes_left; kinds_left = h.kinds_left; meant = h.meant }
declares_behind ds s n (lines.When rel left right) ls h = record { sizes_left = h.sizes_left; kinds_left = h.kinds_left; meant = h.meant }
declares_behind ds s n (lines.Set array at value) ls h = record { sizes_left = h.sizes_left; kinds_left = h.kinds_left; meant = h.meant }
declares_behind ds s n (lines.Keep name value) ls h = record { sizes_left = h.sizes_left; kinds_left = h.kinds_left; meant = h.meant }
declares_behind ds s n lines.End ls h = record { sizes_left = h.sizes_left; kinds_left = h.kinds_left; meant = h.meant }

pub declares_first : (ls : List Numbered) → Declares (decls_from empty ls) empty ls
declares_first ls = record { sizes_left = refl; kinds_left = refl; meant = tt }

-- ---- where no rule is broken, arrays are of the kind and the size that is asked

abbrev pub array_of : ArrayUse → ArrayId
array_of u = record { 0 = number_of u }

pub index_is : (ds : List Decl) (u : ArrayUse) → IsUse ds u → index_fault u ≡ None → is_index ds (array_of u) ≡ true
index_is ds uses.Unknown h e = absurd cc
index_is ds uses.Other h e = absurd cc
index_is ds (uses.Indexes size number) h e = ap (λ (o : Option Kind). option_map_or holds_places o false) h.1
index_is ds (uses.Holds size number) h e = absurd cc

pub data_is : (ds : List Decl) (u : ArrayUse) → IsUse ds u → data_fault u ≡ None → is_data ds (array_of u) ≡ true
data_is ds uses.Unknown h e = absurd cc
data_is ds uses.Other h e = absurd cc
data_is ds (uses.Indexes size number) h e = absurd cc
data_is ds (uses.Holds size number) h e = ap (λ (o : Option Kind). option_map_or holds_data o false) h.1

pub target_is : (ds : List Decl) (u : ArrayUse) → IsUse ds u → target_fault u ≡ None → is_data ds (array_of u) ≡ true
target_is ds uses.Unknown h e = absurd cc
target_is ds uses.Other h e = absurd cc
target_is ds (uses.Indexes size number) h e = absurd cc
target_is ds (uses.Holds size number) h e = data_is ds (uses.Holds size number) h e
