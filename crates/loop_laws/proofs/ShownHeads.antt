-- Declarations, locals and properties stand in the order of their lines.
use Rattle.std.proofs.Common.{◌≡◌, ℕ, ◌+◌, ◌≤◌, true, false, nat_lt, if◌then◌else◌, List, [], ◌∷◌, ◌++◌, map, refl, ap, ◌∙◌, arith}
use Rattle.std.proofs.lemmas.Bool.Decides.{nat_tests}
use Rattle.loop_core.specs.declared.decl.Decl.{Decl}
use Rattle.loop_core.specs.declared.decl.LocalDecl.{LocalDecl}
use Rattle.loop_core.specs.declared.decl.PropDecl.{PropDecl}
use Rattle.loop_lines.specs.declared.line.Line.{Line}
use Rattle.loop_lines.specs.declared.line.Line.TheVariants as lines
use Rattle.loop_syntax.specs.declared.numbered.Numbered.{Numbered}
use Rattle.loop_syntax.specs.Scope.{Scope, scope_behind, scope_after}
use Rattle.loop_syntax.specs.Resolved.{property}
use Rattle.loop_syntax.specs.TextNest.{gathered}
use Rattle.loop_print.specs.PrintHeads.{HeadLine, decl_line, local_line, prop_line, lines_before, lines_from, merged, head_lines}
use Rattle.loop_syntax.proofs.FewLaws.{Rise}
use Rattle.loop_laws.proofs.ShownNames.{decls_from, locals_from}

-- the properties that lines give from a scope on
abbrev pub props_from : Scope → List Numbered → List PropDecl
props_from s ls = gathered (λ s l. property s l.number l.line) s ls

-- the first line stands at a number or after it
abbrev pub From : ℕ → List HeadLine → Type 0
From n [] = Unit {0}
From n (h ∷ hs) = n ≤ h.number

sooner : (m n : ℕ) (hs : List HeadLine) → m ≤ n → From n hs → From m hs
sooner m n [] le h = tt
sooner m n (x ∷ xs) le h = omega (arith, h)

pub one_sooner : (n : ℕ) (hs : List HeadLine) → From (n + 1) hs → From n hs
one_sooner n hs h = sooner n (n + 1) hs (omega arith) h

-- ---- the lines of a text rise

abbrev decl_lines : Scope → List Numbered → List HeadLine
decl_lines s ls = map decl_line (decls_from s ls)

one_decl : (n m : ℕ) (s : Scope) (l : Line) (ls : List Numbered) → m ≤ n → From (n + 1) (decl_lines (scope_behind s n l) ls) → From m (decl_lines s (record { number = n; line = l } ∷ ls))
one_decl n m s (lines.Matrix name form) ls le h = le
one_decl n m s (lines.Index name size) ls le h = le
one_decl n m s (lines.Vector name size source) ls le h = le
one_decl n m s _ ls le h = sooner m (n + 1) _ (omega arith) h

pub decls_rise : (n : ℕ) (s : Scope) (ls : List Numbered) → Rise n ls → From n (map decl_line (decls_from s ls))
decls_rise n s [] h = tt
decls_rise n s (l ∷ ls) h = one_decl l.number n s l.line ls h.0 (decls_rise (l.number + 1) (scope_after s l) ls h.1)

abbrev local_lines : Scope → List Numbered → List HeadLine
local_lines s ls = map local_line (locals_from s ls)

one_local : (n m : ℕ) (s : Scope) (l : Line) (ls : List Numbered) → m ≤ n → From (n + 1) (local_lines (scope_behind s n l) ls) → From m (local_lines s (record { number = n; line = l } ∷ ls))
one_local n m s (lines.Local name) ls le h = le
one_local n m s _ ls le h = sooner m (n + 1) _ (omega arith) h

pub locals_rise : (n : ℕ) (s : Scope) (ls : List Numbered) → Rise n ls → From n (map local_line (locals_from s ls))
locals_rise n s [] h = tt
locals_rise n s (l ∷ ls) h = one_local l.number n s l.line ls h.0 (locals_rise (l.number + 1) (scope_after s l) ls h.1)

module _ (all : List Decl) where
  abbrev prop_lines : Scope → List Numbered → List HeadLine
  prop_lines s ls = map (prop_line all) (props_from s ls)

  one_prop : (n m : ℕ) (s : Scope) (l : Line) (ls : List Numbered) → m ≤ n → From (n + 1) (prop_lines (scope_behind s n l) ls) → From m (prop_lines s (record { number = n; line = l } ∷ ls))
  one_prop n m s (lines.Prop prop) ls le h = le
  one_prop n m s _ ls le h = sooner m (n + 1) _ (omega arith) h

  pub props_rise : (n : ℕ) (s : Scope) (ls : List Numbered) → Rise n ls → From n (map (prop_line all) (props_from s ls))
  props_rise n s [] h = tt
  props_rise n s (l ∷ ls) h = one_prop l.number n s l.line ls h.0 (props_rise (l.number + 1) (scope_after s l) ls h.1)

-- ---- the first line of two lists

none_before : (n : ℕ) (hs : List HeadLine) → From n hs → lines_before n hs ≡ []
none_before n [] h = refl
none_before n (x ∷ xs) h = let late : nat_lt x.number n ≡ false = grind (arith, nat_tests, h) in rw late refl

all_from : (n : ℕ) (hs : List HeadLine) → From n hs → lines_from n hs ≡ hs
all_from n [] h = refl
all_from n (x ∷ xs) h = let late : nat_lt x.number n ≡ false = grind (arith, nat_tests, h) in rw late refl

-- it is that of the first list where the second begins no sooner
first_here : (h : HeadLine) (hs others : List HeadLine) → From h.number others → merged (h ∷ hs) others ≡ h ∷ merged hs others
first_here h hs others k = rw (none_before h.number others k, all_from h.number others k) refl

-- and that of the second where the first begins later
first_there : (h : HeadLine) (hs others : List HeadLine) → From (h.number + 1) hs → merged hs (h ∷ others) ≡ h ∷ merged hs others
first_there h [] others k = refl
first_there h (x ∷ xs) others k = let early : nat_lt h.number x.number ≡ true = grind (arith, nat_tests, k) in rw early refl

both_from : (n : ℕ) (hs others : List HeadLine) → From n hs → From n others → From n (merged hs others)
both_from n [] others h k = k
both_from n (x ∷ xs) [] h k = h
both_from n (x ∷ xs) (y ∷ ys) h k =
    elim (nat_lt y.number x.number)
    as (λ b. From n ((if b then y ∷ lines_before x.number ys else []) ++ x ∷ merged xs (if b then lines_from x.number ys else y ∷ ys)))
    [ true ↦ k | false ↦ h ]

-- ---- the first line above the loop

module _ (all : List Decl) where
  pub decl_first : (d : Decl) (ds : List Decl) (ls : List LocalDecl) (ps : List PropDecl) → From d.line (map local_line ls) → From d.line (map (prop_line all) ps)
      → head_lines all (d ∷ ds) ls ps ≡ decl_line d ∷ head_lines all ds ls ps
  decl_first d ds ls ps h k =
      let sides = merged (map local_line ls) (map (prop_line all) ps) in
      first_here (decl_line d) (map decl_line ds) sides (both_from d.line (map local_line ls) (map (prop_line all) ps) h k)

  pub local_first : (l : LocalDecl) (ds : List Decl) (ls : List LocalDecl) (ps : List PropDecl) → From (l.line + 1) (map decl_line ds) → From l.line (map (prop_line all) ps)
      → head_lines all ds (l ∷ ls) ps ≡ local_line l ∷ head_lines all ds ls ps
  local_first l ds ls ps h k =
      ap (merged (map decl_line ds)) (first_here (local_line l) (map local_line ls) (map (prop_line all) ps) k)
      ∙ first_there (local_line l) (map decl_line ds) (merged (map local_line ls) (map (prop_line all) ps)) h

  pub prop_first : (p : PropDecl) (ds : List Decl) (ls : List LocalDecl) (ps : List PropDecl) → From (p.line + 1) (map decl_line ds) → From (p.line + 1) (map local_line ls)
      → head_lines all ds ls (p ∷ ps) ≡ prop_line all p ∷ head_lines all ds ls ps
  prop_first p ds ls ps h k =
      ap (merged (map decl_line ds)) (first_there (prop_line all p) (map local_line ls) (map (prop_line all) ps) k)
      ∙ first_there (prop_line all p) (map decl_line ds) (merged (map local_line ls) (map (prop_line all) ps)) h
