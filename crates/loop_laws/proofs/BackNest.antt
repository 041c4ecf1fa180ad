-- The nest of lines with other numbers.
use Rattle.std.proofs.Common.{◌≡◌, ℕ, List, [], ◌∷◌, ◌++◌, map, refl, sym, ap, ◌∙◌}
use Rattle.std.proofs.lemmas.List.{map-append}
use Rattle.loop_core.specs.declared.decl.PropKind.{PropKind}
use Rattle.loop_core.specs.declared.decl.PropKind.TheVariants as resolved
use Rattle.loop_core.specs.declared.decl.PropDecl.{PropDecl}
use Rattle.loop_core.specs.declared.nest.Term.{Term}
use Rattle.loop_core.specs.declared.nest.Expr.{Expr}
use Rattle.loop_core.specs.declared.nest.Item.{Item}
use Rattle.loop_core.specs.declared.nest.Nest.{Nest}
use Rattle.wave_base.specs.declared.types.ArrayId.{ArrayId}
use Rattle.loop_lines.specs.declared.line.Line.{Line}
use Rattle.loop_lines.specs.declared.line.Line.TheVariants as lines
use Rattle.loop_lines.specs.declared.line.NamedProp.{NamedProp}
use Rattle.loop_lines.specs.declared.line.NamedProp.TheVariants as props
use Rattle.loop_lines.specs.declared.tree.ArrayName.{ArrayName}
use Rattle.loop_lines.specs.declared.tree.NamedTerm.{NamedTerm}
use Rattle.loop_lines.specs.declared.tree.NamedExpr.{NamedExpr}
use Rattle.loop_syntax.specs.declared.items.Head.TheVariants as heads
use Rattle.loop_syntax.specs.declared.numbered.Numbered.{Numbered}
use Rattle.loop_syntax.specs.declared.scope.ArrayUse.{ArrayUse}
use Rattle.loop_syntax.specs.Scope.{Scope, empty, scope_after}
use Rattle.loop_syntax.specs.Resolved.{number_of, array_in, local_in, term_in, value_in, prop_in, declaration, property, local, mark, outer}
use Rattle.loop_syntax.specs.Nesting.{Mark, Opens, Sets, Keeps, Ends, marks}
use Rattle.loop_syntax.specs.TextNest.{gathered, body_marks, IsNestOf}
use Rattle.loop_laws.specs.Renumbered.{renumbered_term, renumbered_item, renumbered_decl, renumbered_local, renumbered_kind, renumbered_prop, renumbered}
use Rattle.loop_laws.proofs.BackNumbers.{with_number}
use Rattle.loop_laws.proofs.BackScope.{with_scope, uses_with, local_with, scope_with}
use Rattle.loop_laws.proofs.BackTerms.{term_with, value_with}
use Rattle.loop_laws.proofs.BackItems.{with_mark, marks_with}

abbrev with_outer : (ℕ → ℕ) → ℕ × List ℕ → ℕ × List ℕ
with_outer f loop = (f loop.0, loop.1)

-- what lines give, one after another
gathered_with : {X : Type 0} (give : Scope → Numbered → List X) (g : X → X) (f : ℕ → ℕ) → ((s : Scope) (l : Numbered) → give (with_scope f s) (with_number f l) ≡ map g (give s l))
    → (s : Scope) (ls : List Numbered) → gathered give (with_scope f s) (map (with_number f) ls) ≡ map g (gathered give s ls)
gathered_with give g f same s [] = refl
gathered_with give g f same s (l ∷ ls) =
    let more = map (with_number f) ls in
    ap (λ here. here ++ gathered give (scope_after (with_scope f s) (with_number f l)) more) (same s l)
    ∙ ap (λ (t : Scope). map g (give s l) ++ gathered give t more) (scope_with f s l.number l.line)
    ∙ ap (λ rest. map g (give s l) ++ rest) (gathered_with give g f same (scope_after s l) ls)
    ∙ sym (map-append g (give s l) (gathered give (scope_after s l) ls))

declaration_with : (f : ℕ → ℕ) (n : ℕ) (l : Line) → declaration (f n) l ≡ map (renumbered_decl f) (declaration n l)
declaration_with f n (lines.Matrix name form) = refl
declaration_with f n (lines.Index name size) = refl
declaration_with f n (lines.Vector name size source) = refl
declaration_with f n (lines.Local name) = refl
declaration_with f n (lines.Prop prop) = refl
declaration_with f n (lines.Loop name) = refl
declaration_with f n (lines.For name lo hi) = refl
declaration_with f n (lines.When rel left right) = refl
declaration_with f n (lines.Set array at value) = refl
declaration_with f n (lines.Keep name value) = refl
declaration_with f n lines.End = refl

local_line_with : (f : ℕ → ℕ) (n : ℕ) (l : Line) → local (f n) l ≡ map (renumbered_local f) (local n l)
local_line_with f n (lines.Local name) = refl
local_line_with f n _ = refl

outer_loop_with : (f : ℕ → ℕ) (n : ℕ) (l : Line) → outer (f n) l ≡ map (with_outer f) (outer n l)
outer_loop_with f n (lines.Matrix name form) = refl
outer_loop_with f n (lines.Index name size) = refl
outer_loop_with f n (lines.Vector name size source) = refl
outer_loop_with f n (lines.Local name) = refl
outer_loop_with f n (lines.Prop prop) = refl
outer_loop_with f n (lines.Loop name) = refl
outer_loop_with f n (lines.For name lo hi) = refl
outer_loop_with f n (lines.When rel left right) = refl
outer_loop_with f n (lines.Set array at value) = refl
outer_loop_with f n (lines.Keep name value) = refl
outer_loop_with f n lines.End = refl

module _ (f : ℕ → ℕ) (nought : f 0 ≡ 0) where
  -- the number of an array, in any scope
  abbrev entry : (ArrayName → ArrayUse) → ArrayName → ArrayId
  entry u array = record { 0 = number_of (u array) }

  prop_with : (s : Scope) (p : NamedProp) → prop_in (with_scope f s) p ≡ renumbered_kind f (prop_in s p)
  prop_with s (props.Range array lo hi) =
      ap (λ (u : ArrayName → ArrayUse). resolved.Range (entry u array) (term_in (with_scope f s) lo) (term_in (with_scope f s) hi)) (uses_with f s)
      ∙ ap (λ (t : Term). resolved.Range (array_in s array) t (term_in (with_scope f s) hi)) (term_with f nought s lo)
      ∙ ap (resolved.Range (array_in s array) (renumbered_term f (term_in s lo))) (term_with f nought s hi)
  prop_with s (props.Rising p) = ap (λ (u : ArrayName → ArrayUse). resolved.Rising (entry u p)) (uses_with f s)
  prop_with s (props.Strict p) = ap (λ (u : ArrayName → ArrayUse). resolved.Strict (entry u p)) (uses_with f s)
  prop_with s (props.Injective array) = ap (λ (u : ArrayName → ArrayUse). resolved.Injective (entry u array)) (uses_with f s)
  prop_with s (props.Sorted array p) = ap (λ (u : ArrayName → ArrayUse). resolved.Sorted (entry u array) (entry u p)) (uses_with f s)
  prop_with s (props.Below array p) = ap (λ (u : ArrayName → ArrayUse). resolved.Below (entry u array) (entry u p)) (uses_with f s)
  prop_with s (props.Upto array p) = ap (λ (u : ArrayName → ArrayUse). resolved.Upto (entry u array) (entry u p)) (uses_with f s)
  prop_with s (props.Diagonal d array p) = ap (λ (u : ArrayName → ArrayUse). resolved.Diagonal (entry u d) (entry u array) (entry u p)) (uses_with f s)
  prop_with s (props.Before a b) = ap (λ (u : ArrayName → ArrayUse). resolved.Before (entry u a) (entry u b)) (uses_with f s)

  property_with : (s : Scope) (n : ℕ) (l : Line) → property (with_scope f s) (f n) l ≡ map (renumbered_prop f) (property s n l)
  property_with s n (lines.Matrix name form) = refl
  property_with s n (lines.Index name size) = refl
  property_with s n (lines.Vector name size source) = refl
  property_with s n (lines.Local name) = refl
  property_with s n (lines.Prop prop) = ap (λ (kind : PropKind). let p : PropDecl = record { line = f n; kind = kind } in p ∷ []) (prop_with s prop)
  property_with s n (lines.Loop name) = refl
  property_with s n (lines.For name lo hi) = refl
  property_with s n (lines.When rel left right) = refl
  property_with s n (lines.Set array at value) = refl
  property_with s n (lines.Keep name value) = refl
  property_with s n lines.End = refl

  set_with : (s : Scope) (n : ℕ) (array : ArrayName) (at : NamedTerm) (value : NamedExpr) → mark (with_scope f s) (f n) (lines.Set array at value) ≡ map (with_mark f) (mark s n (lines.Set array at value))
  set_with s n array at value =
      ap (λ (u : ArrayName → ArrayUse). Sets (f n) (entry u array) (term_in (with_scope f s) at) (value_in (with_scope f s) value) ∷ []) (uses_with f s)
      ∙ ap (λ (t : Term). Sets (f n) (array_in s array) t (value_in (with_scope f s) value) ∷ []) (term_with f nought s at)
      ∙ ap (λ (e : Expr). Sets (f n) (array_in s array) (renumbered_term f (term_in s at)) e ∷ []) (value_with f nought s value)

  keep_with : (s : Scope) (n : ℕ) (name : List ℕ) (value : NamedExpr) → mark (with_scope f s) (f n) (lines.Keep name value) ≡ map (with_mark f) (mark s n (lines.Keep name value))
  keep_with s n name value =
      ap (λ (k : ℕ). Keeps (f n) k (value_in (with_scope f s) value) ∷ []) (local_with f s name)
      ∙ ap (λ (e : Expr). Keeps (f n) (local_in s name) e ∷ []) (value_with f nought s value)

  mark_with : (s : Scope) (n : ℕ) (l : Line) → mark (with_scope f s) (f n) l ≡ map (with_mark f) (mark s n l)
  mark_with s n (lines.Matrix name form) = refl
  mark_with s n (lines.Index name size) = refl
  mark_with s n (lines.Vector name size source) = refl
  mark_with s n (lines.Local name) = refl
  mark_with s n (lines.Prop prop) = refl
  mark_with s n (lines.Loop name) = refl
  mark_with s n (lines.For name lo hi) =
      ap (λ (t : Term). Opens (f n) (heads.For name t (term_in (with_scope f s) hi)) ∷ []) (term_with f nought s lo)
      ∙ ap (λ (t : Term). Opens (f n) (heads.For name (renumbered_term f (term_in s lo)) t) ∷ []) (term_with f nought s hi)
  mark_with s n (lines.When rel left right) =
      ap (λ (t : Term). Opens (f n) (heads.When rel t (term_in (with_scope f s) right)) ∷ []) (term_with f nought s left)
      ∙ ap (λ (t : Term). Opens (f n) (heads.When rel (renumbered_term f (term_in s left)) t) ∷ []) (term_with f nought s right)
  mark_with s n (lines.Set array at value) = set_with s n array at value
  mark_with s n (lines.Keep name value) = keep_with s n name value
  mark_with s n lines.End = refl

  body_with : (body : List Item) (ms : List Mark) → marks body ++ Ends ∷ [] ≡ ms → marks (map (renumbered_item f) body) ++ Ends ∷ [] ≡ map (with_mark f) ms
  body_with body ms is =
      ap (λ (l : List Mark). l ++ Ends ∷ []) (marks_with f body) ∙ sym (map-append (with_mark f) (marks body) (Ends ∷ [])) ∙ ap (map (with_mark f)) is

  pub nest_with : (ls : List Numbered) (nest : Nest) → IsNestOf ls nest → IsNestOf (map (with_number f) ls) (renumbered f nest)
  nest_with ls nest is = record {
    decls = ap (map (renumbered_decl f)) is.decls ∙ sym (gathered_with (λ s l. declaration l.number l.line) (renumbered_decl f) f (λ s l. declaration_with f l.number l.line) empty ls);
    props = ap (map (renumbered_prop f)) is.props ∙ sym (gathered_with (λ s l. property s l.number l.line) (renumbered_prop f) f (λ s l. property_with s l.number l.line) empty ls);
    locals = ap (map (renumbered_local f)) is.locals ∙ sym (gathered_with (λ s l. local l.number l.line) (renumbered_local f) f (λ s l. local_line_with f l.number l.line) empty ls);
    loop = gathered_with (λ s l. outer l.number l.line) (with_outer f) f (λ s l. outer_loop_with f l.number l.line) empty ls ∙ ap (map (with_outer f)) is.loop;
    body = body_with nest.body (body_marks ls) is.body ∙ sym (gathered_with (λ s l. mark s l.number l.line) (with_mark f) f (λ s l. mark_with s l.number l.line) empty ls);
  }
