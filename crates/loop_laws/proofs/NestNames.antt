-- What the lines of a text write is what the loop language can say: names and numbers.
use Rattle.std.proofs.Common.{◌≡◌, ℕ, ℤ, Bool, true, ◌&&◌, List, [], ◌∷◌, ◌++◌, map, refl, sym, ap, subst, ◌∙◌}
use Rattle.std.specs.Prelude.{IsTrue}
use Rattle.std.specs.List.{list_all, flat_map}
use Rattle.std.proofs.lemmas.List.Folds.{list_all-append}
use Rattle.loop_core.specs.declared.decl.Decl.{Decl}
use Rattle.loop_core.specs.declared.decl.LocalDecl.{LocalDecl}
use Rattle.loop_core.specs.declared.nest.Nest.{Nest}
use Rattle.loop_core.specs.Names.{is_name}
use Rattle.loop_core.specs.IsNest.{declared_names, is_literal}
use Rattle.loop_core.specs.Shape.{Line as BodyLine, expr_numbers, expr_numbers_step, line_names, line_numbers}
use Rattle.loop_lines.specs.declared.line.Line.{Line}
use Rattle.loop_lines.specs.declared.line.Line.TheVariants as lines
use Rattle.loop_lines.specs.declared.tree.NamedExpr.{NamedExpr}
use Rattle.loop_lines.specs.declared.tree.NamedExpr.TheOpen.{NamedExpr-F}
use Rattle.loop_lines.specs.declared.tree.NamedExpr.TheViews.{roll-NamedExpr}
use Rattle.loop_lines.specs.declared.tree.NamedExpr.TheFolds.{ind-NamedExpr, fold-roll-NamedExpr, map-NamedExpr}
use Rattle.loop_lines.specs.Showable.{is_array, is_showable_term, showable_value_step, is_showable_value, IsShowable}
use Rattle.loop_syntax.specs.declared.numbered.Numbered.{Numbered}
use Rattle.loop_syntax.specs.Numbered.{numbered}
use Rattle.loop_syntax.specs.Scope.{Scope, empty, scope_after}
use Rattle.loop_syntax.specs.Resolved.{declaration, local, outer, value_in}
use Rattle.loop_syntax.specs.TextNest.{gathered, IsRead}
use Rattle.loop_lines.proofs.Bools.{and_left, and_right, and_both}
use Rattle.loop_laws.proofs.ShownNames.{decls_from, locals_from, local_names}
use Rattle.loop_laws.proofs.BackText.{AreShowable, are_showable}
use Rattle.loop_laws.proofs.NestForms.{body_line, text_body}
use Rattle.loop_laws.proofs.NestLayers.{expr_layer}

-- ---- names

abbrev are_names : List (List ℕ) → Bool
are_names names = list_all is_name names

abbrev pub names_of : List Decl → List (List ℕ)
names_of decls = map (λ d. d.name) decls

one_declared : (n : ℕ) (l : Line) (rest : List Decl) → IsShowable l → are_names (names_of rest) ≡ true → are_names (names_of (declaration n l ++ rest)) ≡ true
one_declared n (lines.Matrix name form) rest p h = and_both (is_name name) (are_names (names_of rest)) p h
one_declared n (lines.Index name size) rest p h = and_both (is_name name) (are_names (names_of rest)) p h
one_declared n (lines.Vector name size source) rest p h = and_both (is_name name) (are_names (names_of rest)) p h
one_declared n _ rest p h = h

declared_are : (s : Scope) (ls : List Numbered) → AreShowable ls → are_names (names_of (decls_from s ls)) ≡ true
declared_are s [] h = refl
declared_are s (l ∷ ls) h = one_declared l.number l.line (decls_from (scope_after s l) ls) h.0 (declared_are (scope_after s l) ls h.1)

one_own : (n : ℕ) (l : Line) (rest : List LocalDecl) → IsShowable l → are_names (local_names rest) ≡ true → are_names (local_names (local n l ++ rest)) ≡ true
one_own n (lines.Local name) rest p h = and_both (is_name name) (are_names (local_names rest)) p h
one_own n _ rest p h = h

own_are : (s : Scope) (ls : List Numbered) → AreShowable ls → are_names (local_names (locals_from s ls)) ≡ true
own_are s [] h = refl
own_are s (l ∷ ls) h = one_own l.number l.line (locals_from (scope_after s l) ls) h.0 (own_are (scope_after s l) ls h.1)

-- the outer loop's variable
abbrev outer_names : List (ℕ × List ℕ) → List (List ℕ)
outer_names loops = map (λ o. o.1) loops

abbrev pub outer_from : Scope → List Numbered → List (ℕ × List ℕ)
outer_from s ls = gathered (λ s l. outer l.number l.line) s ls

one_outer : (n : ℕ) (l : Line) (rest : List (ℕ × List ℕ)) → IsShowable l → are_names (outer_names rest) ≡ true → are_names (outer_names (outer n l ++ rest)) ≡ true
one_outer n (lines.Loop name) rest p h = and_both (is_name name) (are_names (outer_names rest)) p h
one_outer n _ rest p h = h

outer_are : (s : Scope) (ls : List Numbered) → AreShowable ls → are_names (outer_names (outer_from s ls)) ≡ true
outer_are s [] h = refl
outer_are s (l ∷ ls) h = one_outer l.number l.line (outer_from (scope_after s l) ls) h.0 (outer_are (scope_after s l) ls h.1)

-- the inner loops' variables
abbrev names_on : List BodyLine → List (List ℕ)
names_on ls = flat_map (λ l. line_names l.form) ls

abbrev pub body_from : Scope → List Numbered → List BodyLine
body_from s ls = gathered body_line s ls

one_inner : (s : Scope) (n : ℕ) (l : Line) (rest : List BodyLine) → IsShowable l → are_names (names_on rest) ≡ true
    → are_names (names_on (body_line s (record { number = n; line = l }) ++ rest)) ≡ true
one_inner s n (lines.For name lo hi) rest p h =
    and_both (is_name name) (are_names (names_on rest)) (and_left (is_name name) (is_showable_term lo) (and_left (is_name name && is_showable_term lo) (is_showable_term hi) p)) h
one_inner s n _ rest p h = h

inner_are : (s : Scope) (ls : List Numbered) → AreShowable ls → are_names (names_on (body_from s ls)) ≡ true
inner_are s [] h = refl
inner_are s (l ∷ ls) h = one_inner s l.number l.line (body_from (scope_after s l) ls) h.0 (inner_are (scope_after s l) ls h.1)

pub names_are : (ls : List (List ℕ)) (nest : Nest) → IsRead ls nest → IsTrue (list_all is_name (declared_names nest ++ nest.name ∷ flat_map (λ l. line_names l.form) (text_body (numbered ls))))
names_are ls nest read =
    let all = numbered ls in
    let shown = are_showable 1 ls in
    let decls : are_names (names_of nest.decls) ≡ true = ap (λ (ds : List Decl). are_names (names_of ds)) read.of_text.decls ∙ declared_are empty all shown in
    let locals : are_names (local_names nest.locals) ≡ true = ap (λ (own : List LocalDecl). are_names (local_names own)) read.of_text.locals ∙ own_are empty all shown in
    let both = list_all-append is_name (names_of nest.decls) (local_names nest.locals) ∙ and_both (are_names (names_of nest.decls)) (are_names (local_names nest.locals)) decls locals in
    let loops : are_names (outer_names ((nest.line, nest.name) ∷ [])) ≡ true = ap (λ (os : List (ℕ × List ℕ)). are_names (outer_names os)) (sym read.of_text.loop) ∙ outer_are empty all shown in
    let name : is_name nest.name ≡ true = and_left (is_name nest.name) true loops in
    let inner = names_on (text_body all) in
    list_all-append is_name (declared_names nest) (nest.name ∷ inner)
    ∙ and_both (are_names (declared_names nest)) (are_names (nest.name ∷ inner)) both (and_both (is_name nest.name) (are_names inner) name (inner_are empty all shown))

-- ---- numbers

abbrev are_literals : List ℤ → Bool
are_literals zs = list_all is_literal zs

both_literals : (xs ys : List ℤ) → are_literals xs ≡ true → are_literals ys ≡ true → are_literals (xs ++ ys) ≡ true
both_literals xs ys h k = list_all-append is_literal xs ys ∙ and_both (are_literals xs) (are_literals ys) h k

module _ (s : Scope) where
  abbrev IsLiteral : NamedExpr → Type 0
  IsLiteral v = is_showable_value v ≡ true → are_literals (expr_numbers (value_in s v)) ≡ true

  abbrev LiteralValue : Type 0
  LiteralValue = (v : NamedExpr) × IsLiteral v

  shown_layer : (x : NamedExpr-F NamedExpr) → is_showable_value (roll-NamedExpr x) ≡ true → showable_value_step (map-NamedExpr NamedExpr Bool is_showable_value x) ≡ true
  shown_layer x h = sym (fold-roll-NamedExpr Bool showable_value_step x) ∙ h

  value_case : (y : NamedExpr-F LiteralValue) → IsLiteral (roll-NamedExpr (map-NamedExpr LiteralValue NamedExpr (λ e. e.0) y))
  value_case (NamedExpr-F.Lit z) h =
      let one : are_literals (z ∷ []) ≡ true = and_both (is_literal z) true (shown_layer (NamedExpr-F.Lit z) h) refl in
      ap are_literals (expr_layer expr_numbers_step s (NamedExpr-F.Lit z)) ∙ one
  value_case (NamedExpr-F.Read array at) h = ap are_literals (expr_layer expr_numbers_step s (NamedExpr-F.Read array at))
  value_case (NamedExpr-F.Local name) h = ap are_literals (expr_layer expr_numbers_step s (NamedExpr-F.Local name))
  value_case (NamedExpr-F.Op op l r) h =
      let x : NamedExpr-F NamedExpr = NamedExpr-F.Op op l.0 r.0 in
      let shown = shown_layer x h in
      let left = l.1 (and_left (is_showable_value l.0) (is_showable_value r.0) shown) in
      let right = r.1 (and_right (is_showable_value l.0) (is_showable_value r.0) shown) in
      ap are_literals (expr_layer expr_numbers_step s x) ∙ both_literals (expr_numbers (value_in s l.0)) (expr_numbers (value_in s r.0)) left right

  value_literals : (v : NamedExpr) → IsLiteral v
  value_literals = ind-NamedExpr IsLiteral (λ x y is. subst (λ z. IsLiteral (roll-NamedExpr z)) is (value_case y))

abbrev numbers_on : List BodyLine → List ℤ
numbers_on ls = flat_map (λ l. line_numbers l.form) ls

one_literal : (s : Scope) (n : ℕ) (l : Line) (rest : List BodyLine) → IsShowable l → are_literals (numbers_on rest) ≡ true
    → are_literals (numbers_on (body_line s (record { number = n; line = l }) ++ rest)) ≡ true
one_literal s n (lines.Set array at value) rest p h =
    both_literals (expr_numbers (value_in s value)) (numbers_on rest) (value_literals s value (and_right (is_array array && is_showable_term at) (is_showable_value value) p)) h
one_literal s n (lines.Keep name value) rest p h =
    both_literals (expr_numbers (value_in s value)) (numbers_on rest) (value_literals s value (and_right (is_name name) (is_showable_value value) p)) h
one_literal s n _ rest p h = h

all_literals : (s : Scope) (ls : List Numbered) → AreShowable ls → are_literals (numbers_on (body_from s ls)) ≡ true
all_literals s [] h = refl
all_literals s (l ∷ ls) h = one_literal s l.number l.line (body_from (scope_after s l) ls) h.0 (all_literals (scope_after s l) ls h.1)

pub literals : (ls : List (List ℕ)) (nest : Nest) → IsRead ls nest → IsTrue (list_all is_literal (flat_map (λ l. line_numbers l.form) (text_body (numbered ls))))
literals ls nest read = all_literals empty (numbered ls) (are_showable 1 ls)
