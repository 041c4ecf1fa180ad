-- The lines of declarations, locals and properties show what the lines of the text say.
use Rattle.std.proofs.Common.{◌≡◌, ℕ, true, ◌&&◌, codes, List, [], ◌++◌, None, refl, sym, ap, ◌∙◌, append_assoc}
use Rattle.loop_core.specs.declared.decl.Decl.{Decl}
use Rattle.loop_core.specs.declared.decl.Form.{Form}
use Rattle.loop_core.specs.declared.decl.Form.TheVariants.{Csr, Csc}
use Rattle.loop_core.specs.declared.decl.Size.{Size}
use Rattle.loop_core.specs.declared.decl.Size.TheVariants as sizes
use Rattle.loop_core.specs.declared.decl.Source.{Source}
use Rattle.loop_core.specs.declared.decl.Source.TheVariants as sources
use Rattle.loop_core.specs.declared.decl.DeclKind.TheVariants as kinds
use Rattle.loop_core.specs.declared.decl.LocalDecl.{LocalDecl}
use Rattle.loop_lines.specs.declared.line.Line.TheVariants as lines
use Rattle.loop_lines.specs.declared.line.NamedProp.{NamedProp}
use Rattle.loop_lines.specs.declared.line.NamedProp.TheVariants as props
use Rattle.loop_lines.specs.declared.tree.ArrayName.{ArrayName}
use Rattle.loop_lines.specs.declared.tree.NamedTerm.{NamedTerm}
use Rattle.loop_lines.specs.Shown.{shown_array, shown_term, shown_size, shown_source, shown_prop, shown_line}
use Rattle.loop_lines.specs.Showable.{is_array, is_showable_bound, is_showable_prop}
use Rattle.loop_syntax.specs.declared.scope.ArrayUse.{ArrayUse}
use Rattle.loop_syntax.specs.declared.scope.ArrayUse.TheVariants as uses
use Rattle.loop_syntax.specs.Scope.{Scope, use_of}
use Rattle.loop_syntax.specs.NameRules.{index_fault, sized_fault, alike_fault, by_fault, prop_fault}
use Rattle.loop_syntax.specs.Resolved.{array_in, term_in, prop_in}
use Rattle.loop_print.specs.PrintNames.{Block, array_name}
use Rattle.loop_print.specs.PrintTerms.{term_text}
use Rattle.loop_print.specs.PrintHeads.{size_text, source_text, decl_text, prop_text, local_line}
use Rattle.loop_syntax.proofs.FewLaws.{either_none}
use Rattle.loop_lines.proofs.Bools.{and_left, and_right}
use Rattle.loop_laws.proofs.ShownNames.{IsArray, Knows}
use Rattle.loop_laws.proofs.ShownTrees.{index_array, term_shows, bound_plain}

abbrev pub newline : List ℕ
newline = codes "\n"

-- ---- declarations

size_shows : (size : Size) → size_text size ≡ shown_size size
size_shows sizes.N = refl
size_shows sizes.NPlusOne = refl
size_shows sizes.Nnz = refl

source_shows : (source : Source) → source_text source ≡ shown_source source
source_shows sources.File = refl
source_shows sources.Zeros = refl

pub matrix_shows : (name : List ℕ) (form : Form) → decl_text name (kinds.Matrix form) ≡ shown_line (lines.Matrix name form) ++ newline
matrix_shows name Csr = sym (append_assoc (codes "matrix " ++ name) (codes " csr") newline)
matrix_shows name Csc = sym (append_assoc (codes "matrix " ++ name) (codes " csc") newline)

pub index_shows : (name : List ℕ) (size : Size) → decl_text name (kinds.Index size) ≡ shown_line (lines.Index name size) ++ newline
index_shows name size = rw (size_shows size) refl

pub vector_shows : (name : List ℕ) (size : Size) (source : Source) → decl_text name (kinds.Vector size source) ≡ shown_line (lines.Vector name size source) ++ newline
vector_shows name size source = rw (size_shows size, source_shows source) refl

pub local_shows : (l : LocalDecl) → (local_line l).text ≡ shown_line (lines.Local l.name) ++ newline
local_shows l = refl

-- ---- properties

sized_array : (size : Size) (u : ArrayUse) → sized_fault size u ≡ None → IsArray u
sized_array size uses.Unknown e = absurd cc
sized_array size uses.Other e = absurd cc
sized_array size (uses.Indexes own number) e = tt
sized_array size (uses.Holds own number) e = absurd cc

alike_array : (u v : ArrayUse) → index_fault u ≡ None → alike_fault u v ≡ None → IsArray v
alike_array uses.Unknown v f e = absurd cc
alike_array uses.Other v f e = absurd cc
alike_array (uses.Indexes size number) v f e = sized_array size v e
alike_array (uses.Holds size number) v f e = absurd cc

module _ (decls : List Decl) (locals : List LocalDecl) (s : Scope) (k : Knows decls locals s) where
  one : (array : ArrayName) → index_fault (use_of s array) ≡ None → array_name decls (array_in s array) ≡ shown_array array
  one array e = k.arrays array (index_array (use_of s array) e)

  sized : (size : Size) (array : ArrayName) → sized_fault size (use_of s array) ≡ None → array_name decls (array_in s array) ≡ shown_array array
  sized size array e = k.arrays array (sized_array size (use_of s array) e)

  bound_shows : (t : NamedTerm) → s.blocks ≡ [] → is_showable_bound t ≡ true → term_text decls [] (term_in s t) ≡ shown_term t
  bound_shows t outside e = ap (λ (bs : List Block). term_text decls bs (term_in s t)) (sym outside) ∙ term_shows decls locals s k t (bound_plain s t e)

  range_shows : (f : ArrayName) (lo hi : NamedTerm) → s.blocks ≡ [] → is_showable_prop (props.Range f lo hi) ≡ true → prop_fault s (props.Range f lo hi) ≡ None
      → prop_text decls (prop_in s (props.Range f lo hi)) ≡ shown_prop (props.Range f lo hi) ++ newline
  range_shows f lo hi outside e fine =
      let front = and_left (is_array f && is_showable_bound lo) (is_showable_bound hi) e in
      let low = and_right (is_array f) (is_showable_bound lo) front in
      let high = and_right (is_array f && is_showable_bound lo) (is_showable_bound hi) e in
      rw (one f fine, bound_shows lo outside low, bound_shows hi outside high) refl

  by_both : (f p : ArrayName) → by_fault s f p ≡ None → (array_name decls (array_in s f) ≡ shown_array f) × (array_name decls (array_in s p) ≡ shown_array p)
  by_both f p e =
      let both = either_none (index_fault (use_of s f)) (sized_fault sizes.NPlusOne (use_of s p)) e in
      (one f both.0, sized sizes.NPlusOne p both.1)

  pub prop_shows : (prop : NamedProp) → s.blocks ≡ [] → is_showable_prop prop ≡ true → prop_fault s prop ≡ None → prop_text decls (prop_in s prop) ≡ shown_prop prop ++ newline
  prop_shows (props.Range f lo hi) outside e fine = range_shows f lo hi outside e fine
  prop_shows (props.Rising p) outside e fine = rw (one p fine) refl
  prop_shows (props.Strict p) outside e fine = rw (one p fine) refl
  prop_shows (props.Injective f) outside e fine = rw (one f fine) refl
  prop_shows (props.Sorted f p) outside e fine = let b = by_both f p fine in rw (b.0, b.1) refl
  prop_shows (props.Below f p) outside e fine = let b = by_both f p fine in rw (b.0, b.1) refl
  prop_shows (props.Upto f p) outside e fine = let b = by_both f p fine in rw (b.0, b.1) refl
  prop_shows (props.Diagonal d f p) outside e fine =
      let a = either_none (sized_fault sizes.N (use_of s d)) (by_fault s f p) fine in
      let b = by_both f p a.1 in
      rw (sized sizes.N d a.0, b.0, b.1) refl
  prop_shows (props.Before f g) outside e fine =
      let a = either_none (index_fault (use_of s f)) (alike_fault (use_of s f) (use_of s g)) fine in
      rw (one f a.0, k.arrays g (alike_array (use_of s f) (use_of s g) a.0 a.1)) refl
