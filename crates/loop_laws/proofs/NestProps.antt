-- The properties of a nest that was read name index arrays of the asked sizes; their bounds have no names and small constants.
use Rattle.std.proofs.Common.{◌≡◌, ℕ, Bool, true, false, ◌&&◌, if◌then◌else◌, List, ◌∷◌, map, Option, Some, None, refl, sym, ap, ◌∙◌}
use Rattle.std.specs.Prelude.{IsTrue, slice_get}
use Rattle.std.specs.List.{list_all, flat_map}
use Rattle.loop_core.specs.declared.decl.Decl.{Decl}
use Rattle.loop_core.specs.declared.decl.PropDecl.{PropDecl}
use Rattle.loop_core.specs.declared.decl.Size.{Size}
use Rattle.loop_core.specs.declared.decl.Size.TheVariants.{N, NPlusOne, Nnz}
use Rattle.loop_core.specs.declared.nest.Nest.{Nest}
use Rattle.loop_core.specs.IsNest.{same_size, both_same, has_size, atom_is_bound, is_bound, names_arrays, bounds_of, has_constants}
use Rattle.loop_core.specs.Sizes.{sizes, is_index}
use Rattle.loop_lines.specs.declared.line.Line.{Line}
use Rattle.loop_lines.specs.declared.line.Line.TheVariants as lines
use Rattle.loop_lines.specs.declared.line.NamedProp.{NamedProp}
use Rattle.loop_lines.specs.declared.line.NamedProp.TheVariants as props
use Rattle.loop_lines.specs.declared.tree.ArrayName.{ArrayName}
use Rattle.loop_lines.specs.declared.tree.NamedAtom.TheOpen.{NamedAtom-F}
use Rattle.loop_lines.specs.declared.tree.NamedTerm.{NamedTerm}
use Rattle.loop_lines.specs.Showable.{is_array, bound_step, bound_term_step, is_showable_bound, is_showable_prop, IsShowable}
use Rattle.loop_syntax.specs.declared.numbered.Numbered.{Numbered}
use Rattle.loop_syntax.specs.declared.refusal.NameKind.TheVariants.{WrongKind}
use Rattle.loop_syntax.specs.declared.scope.ArrayUse.{ArrayUse}
use Rattle.loop_syntax.specs.declared.scope.ArrayUse.TheVariants as uses
use Rattle.loop_syntax.specs.Numbered.{numbered}
use Rattle.loop_syntax.specs.Scope.{Scope, empty, scope_after, use_of}
use Rattle.loop_syntax.specs.NameRules.{index_fault, sized_fault, alike_fault, by_fault, prop_fault, line_fault}
use Rattle.loop_syntax.specs.Resolved.{number_of, array_in, term_in, prop_in, property}
use Rattle.loop_syntax.specs.Counts.{bounds, has_constants as line_has_constants}
use Rattle.loop_syntax.specs.TextNest.{properties, IsRead}
use Rattle.loop_laws.proofs.BackText.{AreShowable, are_showable}
use Rattle.loop_syntax.proofs.FewLaws.{either_none}
use Rattle.loop_laws.proofs.NestKinds.{all_flat, all_gathered, small_in, HaveConstants, have_constants, Fine, fine_text, fine_here}
use Rattle.loop_laws.proofs.NestLayers.{Step, by_layers, named_layer, term_layer}
use Rattle.loop_laws.proofs.NestUses.{IsUse, AreUses, array_of, index_is}
use Rattle.loop_lines.proofs.Bools.{and_left, and_right, and_both}
use Rattle.loop_laws.proofs.ShownNames.{decls_from}

-- ---- bounds

abbrev IsPlain : Scope → NamedTerm → Type 0
IsPlain s t = is_showable_bound t ≡ true → is_bound (term_in s t) ≡ true

plain_step : (s : Scope) → Step (IsPlain s)
plain_step s NamedAtom-F.Zero plus e = term_layer atom_is_bound (λ t. t.atom) s NamedAtom-F.Zero plus
plain_step s NamedAtom-F.N plus e = term_layer atom_is_bound (λ t. t.atom) s NamedAtom-F.N plus
plain_step s NamedAtom-F.Nnz plus e = term_layer atom_is_bound (λ t. t.atom) s NamedAtom-F.Nnz plus
plain_step s (NamedAtom-F.Var name) plus e = let never : false ≡ true = sym (named_layer bound_step bound_term_step (NamedAtom-F.Var name) plus) ∙ e in absurd cc
plain_step s (NamedAtom-F.At array inner) plus e = let never : false ≡ true = sym (named_layer bound_step bound_term_step (NamedAtom-F.At array inner.0) plus) ∙ e in absurd cc

bound_in : (s : Scope) (t : NamedTerm) → IsPlain s t
bound_in s = by_layers (IsPlain s) (plain_step s)

-- ---- sizes

same_back : (a b : Size) → same_size a b ≡ same_size b a
same_back N N = refl
same_back N NPlusOne = refl
same_back N Nnz = refl
same_back NPlusOne N = refl
same_back NPlusOne NPlusOne = refl
same_back NPlusOne Nnz = refl
same_back Nnz N = refl
same_back Nnz NPlusOne = refl
same_back Nnz Nnz = refl

both_back : (a b : Option Size) → both_same a b ≡ both_same b a
both_back None None = refl
both_back None (Some b) = refl
both_back (Some a) None = refl
both_back (Some a) (Some b) = same_back a b

if_same : (b : Bool) → (if b then None else Some WrongKind) ≡ None → b ≡ true
if_same true e = refl
if_same false e = absurd cc

-- an index array of the asked size
abbrev IsSized : List Decl → Size → ArrayUse → Type 0
IsSized ds size u = (is_index ds (array_of u) ≡ true) × (has_size ds (array_of u) size ≡ true)

sized_is : (ds : List Decl) (size : Size) (u : ArrayUse) → IsUse ds u → sized_fault size u ≡ None → IsSized ds size u
sized_is ds size uses.Unknown h e = absurd cc
sized_is ds size uses.Other h e = absurd cc
sized_is ds size (uses.Indexes own number) h e = (index_is ds (uses.Indexes own number) h refl, ap (λ (o : Option Size). both_same o (Some size)) h.0 ∙ if_same (same_size own size) e)
sized_is ds size (uses.Holds own number) h e = absurd cc

abbrev size_at : List Decl → ArrayUse → Option Size
size_at ds u = slice_get (sizes ds) (number_of u)

alike_is : (ds : List Decl) (u v : ArrayUse) → IsUse ds u → IsUse ds v → index_fault u ≡ None → alike_fault u v ≡ None
    → (is_index ds (array_of v) ≡ true) × (both_same (size_at ds u) (size_at ds v) ≡ true)
alike_is ds uses.Unknown v h k f e = absurd cc
alike_is ds uses.Other v h k f e = absurd cc
alike_is ds (uses.Indexes size number) v h k f e =
    let s = sized_is ds size v k e in
    (s.0, ap (λ (o : Option Size). both_same o (size_at ds v)) h.0 ∙ both_back (Some size) (size_at ds v) ∙ s.1)
alike_is ds (uses.Holds size number) v h k f e = absurd cc

-- ---- properties

module _ (ds : List Decl) (s : Scope) (k : AreUses ds s) where
  one : (f : ArrayName) → index_fault (use_of s f) ≡ None → is_index ds (array_in s f) ≡ true
  one f e = index_is ds (use_of s f) (k f) e

  sized : (size : Size) (p : ArrayName) → sized_fault size (use_of s p) ≡ None → IsSized ds size (use_of s p)
  sized size p e = sized_is ds size (use_of s p) (k p) e

  by_is : (f p : ArrayName) → by_fault s f p ≡ None → (is_index ds (array_in s f) ≡ true) × IsSized ds NPlusOne (use_of s p)
  by_is f p e =
      let both = either_none (index_fault (use_of s f)) (sized_fault NPlusOne (use_of s p)) e in
      (one f both.0, sized NPlusOne p both.1)

  range_is : (f : ArrayName) (lo hi : NamedTerm) → is_showable_prop (props.Range f lo hi) ≡ true → prop_fault s (props.Range f lo hi) ≡ None
      → names_arrays ds (prop_in s (props.Range f lo hi)) ≡ true
  range_is f lo hi e fine =
      let front = and_left (is_array f && is_showable_bound lo) (is_showable_bound hi) e in
      let low = bound_in s lo (and_right (is_array f) (is_showable_bound lo) front) in
      let high = bound_in s hi (and_right (is_array f && is_showable_bound lo) (is_showable_bound hi) e) in
      rw (one f fine, low, high) refl

  prop_is : (prop : NamedProp) → is_showable_prop prop ≡ true → prop_fault s prop ≡ None → names_arrays ds (prop_in s prop) ≡ true
  prop_is (props.Range f lo hi) e fine = range_is f lo hi e fine
  prop_is (props.Rising p) e fine = one p fine
  prop_is (props.Strict p) e fine = one p fine
  prop_is (props.Injective f) e fine = one f fine
  prop_is (props.Sorted f p) e fine = let b = by_is f p fine in rw (b.0, b.1.0, b.1.1) refl
  prop_is (props.Below f p) e fine = let b = by_is f p fine in rw (b.0, b.1.0, b.1.1) refl
  prop_is (props.Upto f p) e fine = let b = by_is f p fine in rw (b.0, b.1.0, b.1.1) refl
  prop_is (props.Diagonal d f p) e fine =
      let a = either_none (sized_fault N (use_of s d)) (by_fault s f p) fine in
      let first = sized N d a.0 in
      let b = by_is f p a.1 in
      rw (first.0, b.0, b.1.0, first.1, b.1.1) refl
  prop_is (props.Before f g) e fine =
      let a = either_none (index_fault (use_of s f)) (alike_fault (use_of s f) (use_of s g)) fine in
      let b = alike_is ds (use_of s f) (use_of s g) (k f) (k g) a.0 a.1 in
      rw (one f a.0, b.0, b.1) refl

abbrev names_on : List Decl → PropDecl → Bool
names_on ds p = names_arrays ds p.kind

line_props : (ds : List Decl) (s : Scope) (n : ℕ) (l : Line) → AreUses ds s → IsShowable l → line_fault s l ≡ None → list_all (names_on ds) (property s n l) ≡ true
line_props ds s n (lines.Prop prop) k e fine = and_both (names_arrays ds (prop_in s prop)) true (prop_is ds s k prop e fine) refl
line_props ds s n (lines.Matrix name form) k e fine = refl
line_props ds s n (lines.Index name size) k e fine = refl
line_props ds s n (lines.Vector name size source) k e fine = refl
line_props ds s n (lines.Local name) k e fine = refl
line_props ds s n (lines.Loop name) k e fine = refl
line_props ds s n (lines.For name lo hi) k e fine = refl
line_props ds s n (lines.When rel left right) k e fine = refl
line_props ds s n (lines.Set array at value) k e fine = refl
line_props ds s n (lines.Keep name value) k e fine = refl
line_props ds s n lines.End k e fine = refl

abbrev Readable : List Decl → Scope → List Numbered → Type 0
Readable ds s ls = Fine ds s ls × AreShowable ls

readable_line : (ds : List Decl) (s : Scope) (l : Numbered) (ls : List Numbered) → Readable ds s (l ∷ ls)
    → (list_all (names_on ds) (property s l.number l.line) ≡ true) × Readable ds (scope_after s l) ls
readable_line ds s l ls h =
    let f = fine_here ds s l ls h.0 in
    let shown = h.1 in
    (line_props ds s l.number l.line f.0 shown.0 f.1, (f.2, shown.1))

pub properties_are : (ls : List (List ℕ)) (nest : Nest) → IsRead ls nest → IsTrue (list_all (λ p. names_arrays nest.decls p.kind) nest.props)
properties_are ls nest read =
    let ds = decls_from empty (numbered ls) in
    let known : Readable ds empty (numbered ls) = (fine_text ls read.accepted, are_showable 1 ls) in
    let all : list_all (names_on ds) (properties (numbered ls)) ≡ true = all_gathered (names_on ds) (λ s l. property s l.number l.line) (Readable ds) (readable_line ds) empty (numbered ls) known in
    ap (λ (ps : List PropDecl). list_all (names_on nest.decls) ps) read.of_text.props ∙ ap (λ (d : List Decl). list_all (names_on d) (properties (numbered ls))) read.of_text.decls ∙ all

-- ---- the constants of bounds

bounds_in : (s : Scope) (prop : NamedProp) → bounds_of (prop_in s prop) ≡ map (term_in s) (bounds prop)
bounds_in s (props.Range f lo hi) = refl
bounds_in s (props.Rising p) = refl
bounds_in s (props.Strict p) = refl
bounds_in s (props.Injective f) = refl
bounds_in s (props.Sorted f p) = refl
bounds_in s (props.Below f p) = refl
bounds_in s (props.Upto f p) = refl
bounds_in s (props.Diagonal d f p) = refl
bounds_in s (props.Before f g) = refl

abbrev small_on : PropDecl → Bool
small_on p = list_all has_constants (bounds_of p.kind)

line_small : (s : Scope) (n : ℕ) (l : Line) → line_has_constants l ≡ true → list_all small_on (property s n l) ≡ true
line_small s n (lines.Prop prop) h = and_both (list_all has_constants (bounds_of (prop_in s prop))) true (ap (list_all has_constants) (bounds_in s prop) ∙ small_in s (bounds prop) h) refl
line_small s n (lines.Matrix name form) h = refl
line_small s n (lines.Index name size) h = refl
line_small s n (lines.Vector name size source) h = refl
line_small s n (lines.Local name) h = refl
line_small s n (lines.Loop name) h = refl
line_small s n (lines.For name lo hi) h = refl
line_small s n (lines.When rel left right) h = refl
line_small s n (lines.Set array at value) h = refl
line_small s n (lines.Keep name value) h = refl
line_small s n lines.End h = refl

pub bounds_are : (ls : List (List ℕ)) (nest : Nest) → IsRead ls nest → IsTrue (list_all has_constants (flat_map (λ p. bounds_of p.kind) nest.props))
bounds_are ls nest read =
    let give : Scope → Numbered → List PropDecl = λ s l. property s l.number l.line in
    all_flat has_constants (λ (p : PropDecl). bounds_of p.kind) nest.props
    ∙ ap (list_all small_on) read.of_text.props
    ∙ all_gathered small_on give (λ s ls. HaveConstants ls) (λ s l ls h. (line_small s l.number l.line h.0, h.1)) empty (numbered ls) (have_constants ls read.accepted)
