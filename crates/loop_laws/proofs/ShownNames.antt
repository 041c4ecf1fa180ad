-- The names of arrays, locals and variables that lines say are those that are printed for their numbers.
use Rattle.std.proofs.Common.{◌≡◌, ℕ, zero, suc, ◌+◌, ◌≤◌, ◌<◌, Bool, true, false, ◌==◌, if◌then◌else◌, codes, List, [], ◌∷◌, ◌++◌, map, drop, get_or, Option, Some, None, refl, sym, ap, subst, ◌∙◌, append_assoc, arith}
use Rattle.std.specs.Str.{bytes_eq}
use Rattle.std.proofs.lemmas.Slice.Eq.{bytes_eq-Decides}
use Rattle.std.proofs.lemmas.Bool.Decides.{nat_tests}
use Rattle.loop_core.specs.declared.decl.Decl.{Decl}
use Rattle.loop_core.specs.declared.decl.LocalDecl.{LocalDecl}
use Rattle.loop_core.specs.declared.decl.Form.{Form}
use Rattle.loop_core.specs.declared.decl.Form.TheVariants.{Csr, Csc}
use Rattle.loop_core.specs.declared.decl.Size.TheVariants as sizes
use Rattle.loop_core.specs.declared.decl.DeclKind.TheVariants as kinds
use Rattle.loop_lines.specs.declared.line.Line.{Line}
use Rattle.loop_lines.specs.declared.line.Line.TheVariants as lines
use Rattle.loop_lines.specs.declared.tree.ArrayName.{ArrayName}
use Rattle.loop_lines.specs.declared.tree.ArrayName.TheVariants.{Own, Dotted}
use Rattle.loop_lines.specs.Shown.{shown_array}
use Rattle.loop_syntax.specs.declared.numbered.Numbered.{Numbered}
use Rattle.loop_syntax.specs.declared.scope.Meaning.{Meaning}
use Rattle.loop_syntax.specs.declared.scope.Meaning.TheVariants as meanings
use Rattle.loop_syntax.specs.declared.scope.ArrayUse.{ArrayUse}
use Rattle.loop_syntax.specs.declared.scope.ArrayUse.TheVariants as uses
use Rattle.loop_syntax.specs.declared.scope.Known.{Known}
use Rattle.loop_syntax.specs.declared.scope.Parts.{Parts}
use Rattle.loop_lines.specs.declared.block.Block.{Block}
use Rattle.loop_lines.specs.declared.block.Block.TheVariants.{Repeated, Guarded}
use Rattle.loop_syntax.specs.Scope.{Scope, empty, variables, known, found, meaning_of, declared, outer_blocks, parts_from, scope_behind, index_part, part_use, own_use, dotted_use, use_of}
use Rattle.loop_syntax.specs.Resolved.{number_of, array_in, declaration, local}
use Rattle.loop_syntax.specs.TextNest.{gathered}
use Rattle.loop_print.specs.PrintNames.{names_of, array_names, array_name, local_name, variable_name}
use Rattle.loop_syntax.proofs.ScopeLaws.{found_first, found_second}

-- the declarations that lines give from a scope on
abbrev pub decls_from : Scope → List Numbered → List Decl
decls_from s ls = gathered (λ s l. declaration l.number l.line) s ls

-- the locals that they declare, and the names of locals
abbrev pub locals_from : Scope → List Numbered → List LocalDecl
locals_from s ls = gathered (λ s l. local l.number l.line) s ls

abbrev pub local_names : List LocalDecl → List (List ℕ)
local_names locals = map (λ l. l.name) locals

same : (xs ys : List ℕ) → bytes_eq xs ys ≡ true → xs ≡ ys
same xs ys e = (bytes_eq-Decides xs ys).0 e

-- ---- what a name's meaning says of the names by their numbers

abbrev pub name_at : List (List ℕ) → ℕ → List ℕ
name_at names number = get_or names number []

-- the names at a meaning's numbers, among those of arrays or those of locals
abbrev pub IsTold : List (List ℕ) → List (List ℕ) → List ℕ → Meaning → Type 0
IsTold names kept name (meanings.Matrix form parts) =
    (name_at names parts.ptr ≡ name ++ codes ".ptr") × (name_at names parts.index ≡ name ++ codes "." ++ index_part form) × (name_at names parts.diag ≡ name ++ codes ".diag") × (name_at names parts.val ≡ name ++ codes ".val")
IsTold names kept name (meanings.Indexes size number) = name_at names number ≡ name
IsTold names kept name (meanings.Holds size number) = name_at names number ≡ name
IsTold names kept name (meanings.Variable line) = Unit {0}
IsTold names kept name (meanings.Local number) = name_at kept number ≡ name

abbrev pub AreTold : List (List ℕ) → List (List ℕ) → List Known → Type 0
AreTold names kept [] = Unit {0}
AreTold names kept (k ∷ ks) = IsTold names kept k.name k.meaning × AreTold names kept ks

abbrev pub IsNoVariable : Meaning → Type 0
IsNoVariable (meanings.Variable line) = ⊥
IsNoVariable _ = Unit {0}

abbrev pub AreNoVariables : List Known → Type 0
AreNoVariables [] = Unit {0}
AreNoVariables (k ∷ ks) = IsNoVariable k.meaning × AreNoVariables ks

told_both : (names kept : List (List ℕ)) (xs ys : List Known) → AreTold names kept xs → AreTold names kept ys → AreTold names kept (xs ++ ys)
told_both names kept [] ys h k = k
told_both names kept (x ∷ xs) ys h k = (h.0, told_both names kept xs ys h.1 k)

pub no_variables_both : (xs ys : List Known) → AreNoVariables xs → AreNoVariables ys → AreNoVariables (xs ++ ys)
no_variables_both [] ys h k = k
no_variables_both (x ∷ xs) ys h k = (h.0, no_variables_both xs ys h.1 k)

variables_told : (names kept : List (List ℕ)) (bs : List Block) → AreTold names kept (variables bs)
variables_told names kept [] = tt
variables_told names kept (Repeated line name ∷ bs) = (tt, variables_told names kept bs)
variables_told names kept (Guarded ∷ bs) = variables_told names kept bs

-- ---- what is found is known

abbrev IsToldIf : List (List ℕ) → List (List ℕ) → List ℕ → Option Meaning → Type 0
IsToldIf names kept name None = Unit {0}
IsToldIf names kept name (Some m) = IsTold names kept name m

told_here : (names kept : List (List ℕ)) (name : List ℕ) (k : Known) (more : Option Meaning) (b : Bool) → bytes_eq name k.name ≡ b → IsTold names kept k.name k.meaning → IsToldIf names kept name more → IsToldIf names kept name (if b then Some k.meaning else more)
told_here names kept name k more true e h g = subst (λ (x : List ℕ). IsTold names kept x k.meaning) (sym (same name k.name e)) h
told_here names kept name k more false e h g = g

found_told : (names kept : List (List ℕ)) (name : List ℕ) (ks : List Known) → AreTold names kept ks → IsToldIf names kept name (found name ks)
found_told names kept name [] h = tt
found_told names kept name (k ∷ ks) h = told_here names kept name k (found name ks) (bytes_eq name k.name) refl h.0 (found_told names kept name ks h.1)

-- an array stands where it is named
abbrev pub IsArray : ArrayUse → Type 0
IsArray uses.Unknown = ⊥
IsArray uses.Other = ⊥
IsArray (uses.Indexes size number) = Unit {0}
IsArray (uses.Holds size number) = Unit {0}

-- and the name at its number is this one
abbrev IsNamed : List (List ℕ) → List ℕ → ArrayUse → Type 0
IsNamed names name array = IsArray array → name_at names (number_of array) ≡ name

own_named : (names kept : List (List ℕ)) (name : List ℕ) (o : Option Meaning) → IsToldIf names kept name o → IsNamed names name (own_use o)
own_named names kept name None h is = absurd is
own_named names kept name (Some (meanings.Matrix form parts)) h is = absurd is
own_named names kept name (Some (meanings.Indexes size number)) h is = h
own_named names kept name (Some (meanings.Holds size number)) h is = h
own_named names kept name (Some (meanings.Variable line)) h is = absurd is
own_named names kept name (Some (meanings.Local number)) h is = absurd is

choose : (P : ArrayUse → Type 0) (b : Bool) (u v : ArrayUse) → ((b ≡ true) → P u) → P v → P (if b then u else v)
choose P true u v f g = f refl
choose P false u v f g = g

-- the name of an array of a matrix, where its part is this word
pointed : (matrix part word text : List ℕ) → text ≡ matrix ++ (46 ∷ word) → part ≡ word → text ≡ shown_array (Dotted matrix part)
pointed matrix part word text e is = e ∙ sym (append_assoc matrix (codes ".") word) ∙ ap (λ (p : List ℕ). matrix ++ codes "." ++ p) (sym is)

part_named : (names kept : List (List ℕ)) (matrix : List ℕ) (form : Form) (parts : Parts) (part : List ℕ) → IsTold names kept matrix (meanings.Matrix form parts) → IsNamed names (shown_array (Dotted matrix part)) (part_use form parts part)
part_named names kept matrix form parts part h =
    let P : ArrayUse → Type 0 = λ u. IsNamed names (shown_array (Dotted matrix part)) u in
    let val : ArrayUse = if bytes_eq part (codes "val") then uses.Holds sizes.Nnz parts.val else uses.Unknown in
    let diag : ArrayUse = if bytes_eq part (codes "diag") then uses.Indexes sizes.N parts.diag else val in
    let index : ArrayUse = if bytes_eq part (index_part form) then uses.Indexes sizes.Nnz parts.index else diag in
    let last = choose P (bytes_eq part (codes "val")) (uses.Holds sizes.Nnz parts.val) uses.Unknown (λ e is. pointed matrix part (codes "val") (name_at names parts.val) h.3 (same part (codes "val") e)) (λ is. absurd is) in
    let third = choose P (bytes_eq part (codes "diag")) (uses.Indexes sizes.N parts.diag) val (λ e is. pointed matrix part (codes "diag") (name_at names parts.diag) h.2 (same part (codes "diag") e)) last in
    let second = choose P (bytes_eq part (index_part form)) (uses.Indexes sizes.Nnz parts.index) diag (λ e is. h.1 ∙ ap (λ (p : List ℕ). matrix ++ codes "." ++ p) (sym (same part (index_part form) e))) third in
    choose P (bytes_eq part (codes "ptr")) (uses.Indexes sizes.NPlusOne parts.ptr) index (λ e is. pointed matrix part (codes "ptr") (name_at names parts.ptr) h.0 (same part (codes "ptr") e)) second

dotted_named : (names kept : List (List ℕ)) (matrix part : List ℕ) (o : Option Meaning) → IsToldIf names kept matrix o → IsNamed names (shown_array (Dotted matrix part)) (dotted_use o part)
dotted_named names kept matrix part None h is = absurd is
dotted_named names kept matrix part (Some (meanings.Matrix form parts)) h is = part_named names kept matrix form parts part h is
dotted_named names kept matrix part (Some (meanings.Indexes size number)) h is = absurd is
dotted_named names kept matrix part (Some (meanings.Holds size number)) h is = absurd is
dotted_named names kept matrix part (Some (meanings.Variable line)) h is = absurd is
dotted_named names kept matrix part (Some (meanings.Local number)) h is = absurd is

use_named : (names kept : List (List ℕ)) (s : Scope) (array : ArrayName) → AreTold names kept (known s) → IsNamed names (shown_array array) (use_of s array)
use_named names kept s (Own name) h is = own_named names kept name (meaning_of s name) (found_told names kept name (known s) h) is
use_named names kept s (Dotted matrix part) h is = dotted_named names kept matrix part (meaning_of s matrix) (found_told names kept matrix (known s) h) is

-- a local's number leads to its name
told_local : (names kept : List (List ℕ)) (name : List ℕ) (o : Option Meaning) (number : ℕ) → IsToldIf names kept name o → o ≡ Some (meanings.Local number) → name_at kept number ≡ name
told_local names kept name o number h e = let P : Option Meaning → Type 0 = λ x. IsToldIf names kept name x in subst P e h

-- ---- variables

-- the lines of open loops fall from the innermost on, and are below a number
abbrev pub Fall : ℕ → List Block → Type 0
Fall n [] = Unit {0}
Fall n (Repeated line name ∷ bs) = (line < n) × Fall line bs
Fall n (Guarded ∷ bs) = Fall n bs

pub fall_below : (m n : ℕ) (bs : List Block) → m ≤ n → Fall m bs → Fall n bs
fall_below m n [] le h = tt
fall_below m n (Repeated line name ∷ bs) le h = (omega (arith, h.0), h.1)
fall_below m n (Guarded ∷ bs) le h = fall_below m n bs le h

pub fall_outer : (n : ℕ) (bs : List Block) → Fall n bs → Fall n (outer_blocks bs)
fall_outer n [] h = tt
fall_outer n (Repeated line name ∷ bs) h = fall_below line n bs (omega (arith, h.0)) h.1
fall_outer n (Guarded ∷ bs) h = h

-- the loop at a line has this name
record Stands (name : List ℕ) (line n : ℕ) (bs : List Block) : Type 0 where
  is_before : line < n
  name_is : variable_name bs line ≡ name

variable_step : (name own : List ℕ) (line at n : ℕ) (bs : List Block) (b : Bool) → bytes_eq name own ≡ b → at < n → (found name (variables bs) ≡ Some (meanings.Variable line) → Stands name line at bs)
    → (if b then Some (meanings.Variable at) else found name (variables bs)) ≡ Some (meanings.Variable line) → Stands name line n (Repeated at own ∷ bs)
variable_step name own line at n bs true e lt more is =
    let here : at ≡ line = cc in
    let test : (at == line) ≡ true = grind (arith, nat_tests) in
    record { is_before = omega arith; name_is = rw test (sym (same name own e)) }
variable_step name own line at n bs false e lt more is =
    let h = more is in
    let lower : line < at = h.is_before in
    let test : (at == line) ≡ false = grind (arith, nat_tests) in
    record { is_before = omega arith; name_is = rw test h.name_is }

variable_stands : (name : List ℕ) (line n : ℕ) (bs : List Block) → Fall n bs → found name (variables bs) ≡ Some (meanings.Variable line) → Stands name line n bs
variable_stands name line n [] h e = absurd cc
variable_stands name line n (Repeated at own ∷ bs) h e = variable_step name own line at n bs (bytes_eq name own) refl h.0 (variable_stands name line at bs h.1) e
variable_stands name line n (Guarded ∷ bs) h e =
    let more = variable_stands name line n bs h e in
    record { is_before = more.is_before; name_is = more.name_is }

abbrev pub IsNoVariableIf : Option Meaning → Type 0
IsNoVariableIf None = Unit {0}
IsNoVariableIf (Some m) = IsNoVariable m

pub none_found : (name : List ℕ) (ks : List Known) → AreNoVariables ks → IsNoVariableIf (found name ks)
none_found name [] h = tt
none_found name (k ∷ ks) h =
    elim (bytes_eq name k.name) as (λ (b : Bool). IsNoVariableIf (if b then Some k.meaning else found name ks)) [ true ↦ h.0 | false ↦ none_found name ks h.1 ]

pub no_variable : (o : Option Meaning) (line : ℕ) → IsNoVariableIf o → o ≡ Some (meanings.Variable line) → ⊥
no_variable o line h e = let P : Option Meaning → Type 0 = λ x. IsNoVariableIf x in let f : ⊥ = subst P e h in f

-- a variable is found among the open loops
among : (name : List ℕ) (xs ys : List Known) (line : ℕ) (o : Option Meaning) → found name xs ≡ o → AreNoVariables ys → found name (xs ++ ys) ≡ Some (meanings.Variable line) → found name xs ≡ Some (meanings.Variable line)
among name xs ys line None e h is = absurd (no_variable (found name ys) line (none_found name ys h) (sym (found_second name xs ys e) ∙ is))
among name xs ys line (Some m) e h is = e ∙ sym (found_first name xs ys m e) ∙ is

-- ---- scopes

-- what declarations give is what is found under their names, and the lines after give the names after theirs
pub record Named (names kept : List (List ℕ)) (s : Scope) (ls : List Numbered) : Type 0 where
  pub left : drop s.arrays names ≡ array_names (decls_from s ls)
  pub kept_left : drop s.locals kept ≡ local_names (locals_from s ls)
  pub told : AreTold names kept s.declared
  pub apart : AreNoVariables s.declared

-- the names of a line are those that are printed for their numbers
pub record Knows (decls : List Decl) (locals : List LocalDecl) (s : Scope) : Type 0 where
  pub arrays : (array : ArrayName) → IsArray (use_of s array) → array_name decls (array_in s array) ≡ shown_array array
  pub own : (name : List ℕ) (number : ℕ) → meaning_of s name ≡ Some (meanings.Local number) → local_name locals number ≡ name
  pub variables : (name : List ℕ) (line : ℕ) → meaning_of s name ≡ Some (meanings.Variable line) → variable_name s.blocks line ≡ name

pub knows : (decls : List Decl) (locals : List LocalDecl) (s : Scope) (n : ℕ) (ls : List Numbered) → Named (array_names decls) (local_names locals) s ls → Fall n s.blocks → Knows decls locals s
knows decls locals s n ls h fall =
    let names = array_names decls in
    let kept = local_names locals in
    let told = told_both names kept (variables s.blocks) s.declared (variables_told names kept s.blocks) h.told in
    record {
      arrays = λ array is. use_named names kept s array told is;
      own = λ name number e. told_local names kept name (meaning_of s name) number (found_told names kept name (known s) told) e;
      variables = λ name line e. (variable_stands name line n s.blocks fall (among name (variables s.blocks) s.declared line (found name (variables s.blocks)) refl h.apart e)).name_is;
    }

-- ---- line by line

here : (n : ℕ) (names : List (List ℕ)) (x : List ℕ) (rest : List (List ℕ)) → drop n names ≡ x ∷ rest → name_at names n ≡ x
here zero names x rest e = ap (λ (l : List (List ℕ)). name_at l 0) e
here (suc n) [] x rest e = absurd cc
here (suc n) (y ∷ names) x rest e = here n names x rest e

next : (n : ℕ) (names : List (List ℕ)) (x : List ℕ) (rest : List (List ℕ)) → drop n names ≡ x ∷ rest → drop (suc n) names ≡ rest
next zero names x rest e = ap (drop 1) e
next (suc n) [] x rest e = absurd cc
next (suc n) (y ∷ names) x rest e = next n names x rest e

behind : (n m : ℕ) (names : List (List ℕ)) (x : List ℕ) (rest : List (List ℕ)) → m ≡ suc n → drop n names ≡ x ∷ rest → drop m names ≡ rest
behind n m names x rest is e = ap (λ (k : ℕ). drop k names) is ∙ next n names x rest e

-- none more are declared
same_place : (s : Scope) (kept : List (List ℕ)) → drop (s.locals + 0) kept ≡ drop s.locals kept
same_place s kept = ap (λ (k : ℕ). drop k kept) (omega arith)

same_arrays : (s : Scope) (names : List (List ℕ)) → drop (s.arrays + 0) names ≡ drop s.arrays names
same_arrays s names = ap (λ (k : ℕ). drop k names) (omega arith)

declared_more : (names kept : List (List ℕ)) (s : Scope) (name : List ℕ) (meaning : Meaning) (arrays locals : ℕ) → AreTold names kept s.declared → AreNoVariables s.declared
    → IsTold names kept name meaning → IsNoVariable meaning → AreTold names kept (declared s name meaning arrays locals).declared × AreNoVariables (declared s name meaning arrays locals).declared
declared_more names kept s name meaning arrays locals told apart is fixed =
    let one : List Known = record { name = name; meaning = meaning } ∷ [] in
    (told_both names kept s.declared one told (is, tt), no_variables_both s.declared one apart (fixed, tt))

-- the four arrays of a matrix, and those after them
abbrev AreFour : List (List ℕ) → List (List ℕ) → ℕ → List ℕ → Form → List (List ℕ) → Type 0
AreFour names kept n name form rest = IsTold names kept name (meanings.Matrix form (parts_from n)) × (drop (n + 4) names ≡ rest)

four_told : (names kept : List (List ℕ)) (n : ℕ) (name index : List ℕ) (form : Form) (rest : List (List ℕ)) → index ≡ name ++ codes "." ++ index_part form
    → drop n names ≡ (name ++ codes ".ptr") ∷ index ∷ (name ++ codes ".diag") ∷ (name ++ codes ".val") ∷ rest → AreFour names kept n name form rest
four_told names kept n name index form rest is e =
    let diag : List ℕ = name ++ codes ".diag" in
    let val : List ℕ = name ++ codes ".val" in
    let f = behind n (n + 1) names (name ++ codes ".ptr") (index ∷ diag ∷ val ∷ rest) (omega arith) e in
    let g = behind (n + 1) (n + 2) names index (diag ∷ val ∷ rest) (omega arith) f in
    let h = behind (n + 2) (n + 3) names diag (val ∷ rest) (omega arith) g in
    ((here n names (name ++ codes ".ptr") (index ∷ diag ∷ val ∷ rest) e, here (n + 1) names index (diag ∷ val ∷ rest) f ∙ is, here (n + 2) names diag (val ∷ rest) g, here (n + 3) names val rest h), behind (n + 3) (n + 4) names val rest (omega arith) h)

matrix_told : (names kept : List (List ℕ)) (n : ℕ) (name : List ℕ) (form : Form) (rest : List (List ℕ)) → drop n names ≡ names_of name (kinds.Matrix form) ++ rest → AreFour names kept n name form rest
matrix_told names kept n name Csr rest e = four_told names kept n name (name ++ codes ".col") Csr rest (sym (append_assoc name (codes ".") (codes "col"))) e
matrix_told names kept n name Csc rest e = four_told names kept n name (name ++ codes ".row") Csc rest (sym (append_assoc name (codes ".") (codes "row"))) e

pub named_behind : (names kept : List (List ℕ)) (s : Scope) (n : ℕ) (l : Line) (ls : List Numbered) → Named names kept s (record { number = n; line = l } ∷ ls) → Named names kept (scope_behind s n l) ls
named_behind names kept s n (lines.Matrix name form) ls h =
    let rest = array_names (decls_from (scope_behind s n (lines.Matrix name form)) ls) in
    let m = matrix_told names kept s.arrays name form rest h.left in
    let d = declared_more names kept s name (meanings.Matrix form (parts_from s.arrays)) 4 0 h.told h.apart m.0 tt in
    record { left = m.1; kept_left = same_place s kept ∙ h.kept_left; told = d.0; apart = d.1 }
named_behind names kept s n (lines.Index name size) ls h =
    let rest = array_names (decls_from (scope_behind s n (lines.Index name size)) ls) in
    let d = declared_more names kept s name (meanings.Indexes size s.arrays) 1 0 h.told h.apart (here s.arrays names name rest h.left) tt in
    record { left = behind s.arrays (s.arrays + 1) names name rest (omega arith) h.left; kept_left = same_place s kept ∙ h.kept_left; told = d.0; apart = d.1 }
named_behind names kept s n (lines.Vector name size source) ls h =
    let rest = array_names (decls_from (scope_behind s n (lines.Vector name size source)) ls) in
    let d = declared_more names kept s name (meanings.Holds size s.arrays) 1 0 h.told h.apart (here s.arrays names name rest h.left) tt in
    record { left = behind s.arrays (s.arrays + 1) names name rest (omega arith) h.left; kept_left = same_place s kept ∙ h.kept_left; told = d.0; apart = d.1 }
named_behind names kept s n (lines.Local name) ls h =
    let rest = local_names (locals_from (scope_behind s n (lines.Local name)) ls) in
    let d = declared_more names kept s name (meanings.Local s.locals) 0 1 h.told h.apart (here s.locals kept name rest h.kept_left) tt in
    record { left = same_arrays s names ∙ h.left; kept_left = behind s.locals (s.locals + 1) kept name rest (omega arith) h.kept_left; told = d.0; apart = d.1 }
named_behind names kept s n (lines.Prop prop) ls h = record { left = h.left; kept_left = h.kept_left; told = h.told; apart = h.apart }
named_behind names kept s n (lines.Loop name) ls h = record { left = h.left; kept_left = h.kept_left; told = h.told; apart = h.apart }
named_behind names kept s n (lines.For name lo hi) ls h = record { left = h.left; kept_left = h.kept_left; told = h.told; apart = h.apart }
named_behind names kept s n (lines.When rel left right) ls h = record { left = h.left; kept_left = h.kept_left; told = h.told; apart = h.apart }
named_behind names kept s n (lines.Set array at value) ls h = record { left = h.left; kept_left = h.kept_left; told = h.told; apart = h.apart }
named_behind names kept s n (lines.Keep name value) ls h = record { left = h.left; kept_left = h.kept_left; told = h.told; apart = h.apart }
named_behind names kept s n lines.End ls h = record { left = h.left; kept_left = h.kept_left; told = h.told; apart = h.apart }

pub named_first : (ls : List Numbered) → Named (array_names (decls_from empty ls)) (local_names (locals_from empty ls)) empty ls
named_first ls = record { left = refl; kept_left = refl; told = tt; apart = tt }
