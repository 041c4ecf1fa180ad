-- The lines of a nest's body use arrays of their kinds, and their constants are small.
use Rattle.std.proofs.Common.{◌≡◌, ℕ, ◌+◌, ℤ, Bool, true, false, ◌&&◌, if◌then◌else◌, List, [], ◌∷◌, ◌++◌, map, Some, None, refl, sym, ap, subst, ◌∙◌}
use Rattle.std.specs.Prelude.{IsTrue}
use Rattle.std.specs.List.{list_all, flat_map, filter}
use Rattle.std.proofs.lemmas.List.{map-append}
use Rattle.std.proofs.lemmas.List.Folds.{list_all-append}
use Rattle.loop_core.specs.declared.decl.Decl.{Decl}
use Rattle.loop_core.specs.declared.nest.Term.{Term}
use Rattle.loop_core.specs.declared.nest.Atom.TheOpen.{Term-F}
use Rattle.loop_core.specs.declared.nest.Nest.{Nest}
use Rattle.loop_core.specs.IsNest.{is_constant, has_constants, uses_kinds}
use Rattle.loop_core.specs.Shape.{Loop, Form, Repeats, Guards, Sets, Keeps, Line as BodyLine, line_terms, line_arrays, term_arrays, arrays_step, term_constants, constants_step, expr_terms, expr_terms_step, expr_arrays, expr_arrays_step}
use Rattle.loop_core.specs.Sizes.{is_index, is_data}
use Rattle.loop_lines.specs.declared.line.Line.{Line}
use Rattle.loop_lines.specs.declared.line.Line.TheVariants as lines
use Rattle.loop_lines.specs.declared.tree.NamedAtom.{NamedAtom}
use Rattle.loop_lines.specs.declared.tree.NamedAtom.TheOpen.{NamedAtom-F, NamedTerm-F}
use Rattle.loop_lines.specs.declared.tree.NamedTerm.{NamedTerm}
use Rattle.loop_lines.specs.declared.tree.NamedExpr.{NamedExpr}
use Rattle.loop_lines.specs.declared.tree.NamedExpr.TheOpen.{NamedExpr-F}
use Rattle.loop_lines.specs.declared.tree.NamedExpr.TheViews.{roll-NamedExpr}
use Rattle.loop_lines.specs.declared.tree.NamedExpr.TheFolds.{ind-NamedExpr, fold-roll-NamedExpr, map-NamedExpr}
use Rattle.loop_lines.specs.Words.{either}
use Rattle.loop_syntax.specs.declared.numbered.Numbered.{Numbered}
use Rattle.loop_syntax.specs.declared.refusal.LimitKind.TheVariants.{Constant}
use Rattle.loop_syntax.specs.Numbered.{numbered}
use Rattle.loop_syntax.specs.Scope.{Scope, empty, meaning_of, scope_after, use_of}
use Rattle.loop_syntax.specs.NameRules.{new_fault, kept_fault, index_fault, data_fault, target_fault, atom_fault, term_fault, terms_fault, value_fault, line_fault, first_fault}
use Rattle.loop_syntax.specs.Resolved.{array_in, local_in, term_in, value_in}
use Rattle.loop_syntax.specs.Counts.{constants_step as named_step, constants, value_terms_step, value_terms, has_constants as line_has_constants, references, constant_limit, scope_limit, first_passed, is_within, targets}
use Rattle.loop_syntax.specs.TextNest.{gathered, refusal, IsRead}
use Rattle.loop_syntax.proofs.FewLaws.{Below, either_none, limits_first, limits_of}
use Rattle.loop_laws.proofs.NestForms.{loops_of, body_line, text_body}
use Rattle.loop_laws.proofs.NestLayers.{Step, by_layers, named_layer, term_layer, expr_layer}
use Rattle.loop_laws.proofs.NestUses.{Declares, AreUses, are_uses, declares_behind, declares_first, index_is, data_is, target_is}
use Rattle.loop_lines.proofs.Bools.{and_both}
use Rattle.loop_syntax.proofs.ReadLaws.{passes_all, faultless, fine_first}
use Rattle.loop_laws.proofs.ShownNames.{decls_from}
use Rattle.loop_laws.proofs.ShownTrees.{fault_of_value}

-- ---- lists

pub all_both : {X : Type 0} (p : X → Bool) (xs ys : List X) → list_all p xs ≡ true → list_all p ys ≡ true → list_all p (xs ++ ys) ≡ true
all_both p xs ys h k = list_all-append p xs ys ∙ and_both (list_all p xs) (list_all p ys) h k

-- all that the elements of a list give
pub all_flat : {X Y : Type 0} (p : Y → Bool) (f : X → List Y) (xs : List X) → list_all p (flat_map f xs) ≡ list_all (λ x. list_all p (f x)) xs
all_flat p f [] = refl
all_flat p f (x ∷ xs) = list_all-append p (f x) (flat_map f xs) ∙ ap (λ (b : Bool). list_all p (f x) && b) (all_flat p f xs)

-- all that lines give, where what is known of the lines goes on after each of them
pub all_gathered : {X : Type 0} (p : X → Bool) (give : Scope → Numbered → List X) (P : Scope → List Numbered → Type 0)
    → ((s : Scope) (l : Numbered) (ls : List Numbered) → P s (l ∷ ls) → (list_all p (give s l) ≡ true) × P (scope_after s l) ls)
    → (s : Scope) (ls : List Numbered) → P s ls → list_all p (gathered give s ls) ≡ true
all_gathered p give P step s [] h = refl
all_gathered p give P step s (l ∷ ls) h =
    let x = step s l ls h in
    all_both p (give s l) (gathered give (scope_after s l) ls) x.0 (all_gathered p give P step (scope_after s l) ls x.1)

-- ---- constants

abbrev ends : Term-F (List ℤ) (List ℤ) → List ℤ
ends t = t.atom ++ t.plus ∷ []

abbrev named_ends : NamedTerm-F (List ℤ) (List ℤ) → List ℤ
named_ends t = t.atom ++ t.plus ∷ []

-- a term has the constants that are written
abbrev HasSame : Scope → NamedTerm → Type 0
HasSame s t = term_constants (term_in s t) ≡ constants t

same_step : (s : Scope) → Step (HasSame s)
same_step s NamedAtom-F.Zero plus = term_layer constants_step ends s NamedAtom-F.Zero plus ∙ sym (named_layer named_step named_ends NamedAtom-F.Zero plus)
same_step s NamedAtom-F.N plus = term_layer constants_step ends s NamedAtom-F.N plus ∙ sym (named_layer named_step named_ends NamedAtom-F.N plus)
same_step s NamedAtom-F.Nnz plus = term_layer constants_step ends s NamedAtom-F.Nnz plus ∙ sym (named_layer named_step named_ends NamedAtom-F.Nnz plus)
same_step s (NamedAtom-F.Var name) plus = term_layer constants_step ends s (NamedAtom-F.Var name) plus ∙ sym (named_layer named_step named_ends (NamedAtom-F.Var name) plus)
same_step s (NamedAtom-F.At array inner) plus =
    let x : NamedAtom-F NamedAtom NamedTerm = NamedAtom-F.At array inner.0 in
    term_layer constants_step ends s x plus ∙ ap (λ (l : List ℤ). l ++ plus ∷ []) inner.1 ∙ sym (named_layer named_step named_ends x plus)

pub constants_in : (s : Scope) (t : NamedTerm) → term_constants (term_in s t) ≡ constants t
constants_in s = by_layers (HasSame s) (same_step s)

-- the constants of terms that are written are small
pub small_in : (s : Scope) (ts : List NamedTerm) → list_all is_constant (flat_map constants ts) ≡ true → list_all has_constants (map (term_in s) ts) ≡ true
small_in s ts h = all_terms ts ∙ sym (all_flat is_constant constants ts) ∙ h
  where
    all_terms : (ts : List NamedTerm) → list_all has_constants (map (term_in s) ts) ≡ list_all (λ t. list_all is_constant (constants t)) ts
    all_terms [] = refl
    all_terms (t ∷ ts) = rw (constants_in s t, all_terms ts) refl

-- the terms of an expression are those that are written
abbrev HasTerms : Scope → NamedExpr → Type 0
HasTerms s v = expr_terms (value_in s v) ≡ map (term_in s) (value_terms v)

abbrev TermsSo : Scope → Type 0
TermsSo s = (v : NamedExpr) × HasTerms s v

said_terms : (s : Scope) (x : NamedExpr-F NamedExpr)
    → map (term_in s) (value_terms (roll-NamedExpr x)) ≡ map (term_in s) (value_terms_step (map-NamedExpr NamedExpr (List NamedTerm) value_terms x))
said_terms s x = ap (map (term_in s)) (fold-roll-NamedExpr (List NamedTerm) value_terms_step x)

terms_case : (s : Scope) (y : NamedExpr-F (TermsSo s)) → HasTerms s (roll-NamedExpr (map-NamedExpr (TermsSo s) NamedExpr (λ e. e.0) y))
terms_case s (NamedExpr-F.Lit value) = expr_layer expr_terms_step s (NamedExpr-F.Lit value) ∙ sym (said_terms s (NamedExpr-F.Lit value))
terms_case s (NamedExpr-F.Read array at) = expr_layer expr_terms_step s (NamedExpr-F.Read array at) ∙ sym (said_terms s (NamedExpr-F.Read array at))
terms_case s (NamedExpr-F.Local name) = expr_layer expr_terms_step s (NamedExpr-F.Local name) ∙ sym (said_terms s (NamedExpr-F.Local name))
terms_case s (NamedExpr-F.Op op left right) =
    let x : NamedExpr-F NamedExpr = NamedExpr-F.Op op left.0 right.0 in
    expr_layer expr_terms_step s x
    ∙ ap (λ (l : List Term). l ++ expr_terms (value_in s right.0)) left.1
    ∙ ap (λ (l : List Term). map (term_in s) (value_terms left.0) ++ l) right.1
    ∙ sym (map-append (term_in s) (value_terms left.0) (value_terms right.0))
    ∙ sym (said_terms s x)

terms_in : (s : Scope) (v : NamedExpr) → HasTerms s v
terms_in s = ind-NamedExpr (HasTerms s) (λ x y is. subst (λ z. HasTerms s (roll-NamedExpr z)) is (terms_case s y))

-- ---- the constants of a text that passes no limit

abbrev pub HaveConstants : List Numbered → Type 0
HaveConstants [] = Unit {0}
HaveConstants (l ∷ ls) = (line_has_constants l.line ≡ true) × HaveConstants ls

small_line : (b : Bool) → (if b then None else Some Constant) ≡ None → b ≡ true
small_line true e = refl
small_line false e = absurd cc

constants_from : (written : List ℕ) (s : Scope) (count : ℕ) (ls : List Numbered) → Below 401 ls → first_passed written s count (filter is_within ls) ≡ None → HaveConstants ls
constants_from written s count [] b e = tt
constants_from written s count (l ∷ ls) b e =
    let behind = scope_after s l in
    let so_far = count + references written s l.line in
    let t = limits_first written s count l ls b.0 e in
    let k = either_none (constant_limit l.line) (scope_limit behind so_far) t.0 in
    (small_line (line_has_constants l.line) k.0, constants_from written behind so_far ls b.1 t.1)

pub have_constants : (ls : List (List ℕ)) → refusal ls ≡ None → HaveConstants (numbered ls)
have_constants ls e =
    let a = limits_of ls (passes_all ls e).limited in
    constants_from (targets empty (numbered ls)) empty 0 (numbered ls) a.1 a.0

-- the constants on a line
abbrev small_on : BodyLine → Bool
small_on l = list_all has_constants (line_terms l.form)

line_small : (s : Scope) (n : ℕ) (l : Line) → line_has_constants l ≡ true → list_all small_on (body_line s (record { number = n; line = l })) ≡ true
line_small s n (lines.Matrix name form) h = refl
line_small s n (lines.Index name size) h = refl
line_small s n (lines.Vector name size source) h = refl
line_small s n (lines.Local name) h = refl
line_small s n (lines.Prop prop) h = refl
line_small s n (lines.Loop name) h = refl
line_small s n (lines.For name lo hi) h = and_both (list_all has_constants (term_in s lo ∷ term_in s hi ∷ [])) true (small_in s (lo ∷ hi ∷ []) h) refl
line_small s n (lines.When rel left right) h = and_both (list_all has_constants (term_in s left ∷ term_in s right ∷ [])) true (small_in s (left ∷ right ∷ []) h) refl
line_small s n (lines.Set array at value) h =
    let all = ap (λ (l : List Term). list_all has_constants (term_in s at ∷ l)) (terms_in s value) ∙ small_in s (at ∷ value_terms value) h in
    and_both (list_all has_constants (term_in s at ∷ expr_terms (value_in s value))) true all refl
line_small s n (lines.Keep name value) h =
    let all = ap (list_all has_constants) (terms_in s value) ∙ small_in s (value_terms value) h in
    and_both (list_all has_constants (expr_terms (value_in s value))) true all refl
line_small s n lines.End h = refl

pub constants_are : (ls : List (List ℕ)) (nest : Nest) → IsRead ls nest → IsTrue (list_all has_constants (flat_map (λ l. line_terms l.form) (text_body (numbered ls))))
constants_are ls nest read =
    all_flat has_constants (λ (l : BodyLine). line_terms l.form) (text_body (numbered ls))
    ∙ all_gathered small_on body_line (λ s ls. HaveConstants ls) (λ s l ls h. (line_small s l.number l.line h.0, h.1)) empty (numbered ls) (have_constants ls read.accepted)

-- ---- kinds

abbrev indexed : List Decl → Term → Bool
indexed ds t = list_all (is_index ds) (term_arrays t)

module _ (ds : List Decl) (s : Scope) (k : AreUses ds s) where
  -- a term that breaks no rule uses index arrays
  abbrev IsIndexed : NamedTerm → Type 0
  IsIndexed t = term_fault s t ≡ None → indexed ds (term_in s t) ≡ true

  indexed_step : Step IsIndexed
  indexed_step NamedAtom-F.Zero plus e = ap (list_all (is_index ds)) (term_layer arrays_step (λ t. t.atom) s NamedAtom-F.Zero plus)
  indexed_step NamedAtom-F.N plus e = ap (list_all (is_index ds)) (term_layer arrays_step (λ t. t.atom) s NamedAtom-F.N plus)
  indexed_step NamedAtom-F.Nnz plus e = ap (list_all (is_index ds)) (term_layer arrays_step (λ t. t.atom) s NamedAtom-F.Nnz plus)
  indexed_step (NamedAtom-F.Var name) plus e = ap (list_all (is_index ds)) (term_layer arrays_step (λ t. t.atom) s (NamedAtom-F.Var name) plus)
  indexed_step (NamedAtom-F.At array inner) plus e =
      let x : NamedAtom-F NamedAtom NamedTerm = NamedAtom-F.At array inner.0 in
      let both = either_none (index_fault (use_of s array)) (term_fault s inner.0) (sym (named_layer (atom_fault s) (λ t. t.atom) x plus) ∙ e) in
      let own = and_both (is_index ds (array_in s array)) true (index_is ds (use_of s array) (k array) both.0) refl in
      ap (list_all (is_index ds)) (term_layer arrays_step (λ t. t.atom) s x plus) ∙ all_both (is_index ds) (term_arrays (term_in s inner.0)) (array_in s array ∷ []) (inner.1 both.1) own

  indexed_in : (t : NamedTerm) → IsIndexed t
  indexed_in = by_layers IsIndexed indexed_step

  two_indexed : (a b : NamedTerm) → terms_fault s a b ≡ None → list_all (indexed ds) (term_in s a ∷ term_in s b ∷ []) ≡ true
  two_indexed a b e =
      let both = either_none (term_fault s a) (term_fault s b) e in
      let last = and_both (indexed ds (term_in s b)) true (indexed_in b both.1) refl in
      and_both (indexed ds (term_in s a)) (list_all (indexed ds) (term_in s b ∷ [])) (indexed_in a both.0) last

  -- an expression that breaks no rule reads data arrays, at places that index arrays give
  abbrev IsOfKinds : NamedExpr → Type 0
  IsOfKinds v = value_fault s v ≡ None → (list_all (indexed ds) (expr_terms (value_in s v)) ≡ true) × (list_all (is_data ds) (expr_arrays (value_in s v)) ≡ true)

  abbrev OfKinds : Type 0
  OfKinds = (v : NamedExpr) × IsOfKinds v

  value_case : (y : NamedExpr-F OfKinds) → IsOfKinds (roll-NamedExpr (map-NamedExpr OfKinds NamedExpr (λ e. e.0) y))
  value_case (NamedExpr-F.Lit value) e =
      (ap (list_all (indexed ds)) (expr_layer expr_terms_step s (NamedExpr-F.Lit value)), ap (list_all (is_data ds)) (expr_layer expr_arrays_step s (NamedExpr-F.Lit value)))
  value_case (NamedExpr-F.Read array at) e =
      let both = either_none (data_fault (use_of s array)) (term_fault s at) (fault_of_value s (NamedExpr-F.Read array at) e) in
      let place = and_both (indexed ds (term_in s at)) true (indexed_in at both.1) refl in
      let own = and_both (is_data ds (array_in s array)) true (data_is ds (use_of s array) (k array) both.0) refl in
      (ap (list_all (indexed ds)) (expr_layer expr_terms_step s (NamedExpr-F.Read array at)) ∙ place, ap (list_all (is_data ds)) (expr_layer expr_arrays_step s (NamedExpr-F.Read array at)) ∙ own)
  value_case (NamedExpr-F.Local name) e =
      (ap (list_all (indexed ds)) (expr_layer expr_terms_step s (NamedExpr-F.Local name)), ap (list_all (is_data ds)) (expr_layer expr_arrays_step s (NamedExpr-F.Local name)))
  value_case (NamedExpr-F.Op op left right) e =
      let x : NamedExpr-F NamedExpr = NamedExpr-F.Op op left.0 right.0 in
      let both = either_none (value_fault s left.0) (value_fault s right.0) (fault_of_value s x e) in
      let l = left.1 both.0 in
      let r = right.1 both.1 in (
        ap (list_all (indexed ds)) (expr_layer expr_terms_step s x) ∙ all_both (indexed ds) (expr_terms (value_in s left.0)) (expr_terms (value_in s right.0)) l.0 r.0,
        ap (list_all (is_data ds)) (expr_layer expr_arrays_step s x) ∙ all_both (is_data ds) (expr_arrays (value_in s left.0)) (expr_arrays (value_in s right.0)) l.1 r.1,
      )

  value_kinds : (v : NamedExpr) → IsOfKinds v
  value_kinds = ind-NamedExpr IsOfKinds (λ x y is. subst (λ z. IsOfKinds (roll-NamedExpr z)) is (value_case y))

  -- a line of the body whose terms and arrays are of their kinds
  form_kinds : (number : ℕ) (around : List Loop) (form : Form) → list_all (indexed ds) (line_terms form) ≡ true → list_all (is_data ds) (line_arrays form) ≡ true
      → list_all (uses_kinds ds) (record { number = number; around = around; form = form } ∷ []) ≡ true
  form_kinds number around form h j =
      let all = list_all (is_index ds) (flat_map term_arrays (line_terms form)) in
      let data_all = list_all (is_data ds) (line_arrays form) in
      and_both (all && data_all) true (and_both all data_all (all_flat (is_index ds) term_arrays (line_terms form) ∙ h) j) refl

  line_kinds : (n : ℕ) (l : Line) → line_fault s l ≡ None → list_all (uses_kinds ds) (body_line s (record { number = n; line = l })) ≡ true
  line_kinds n (lines.Matrix name form) e = refl
  line_kinds n (lines.Index name size) e = refl
  line_kinds n (lines.Vector name size source) e = refl
  line_kinds n (lines.Local name) e = refl
  line_kinds n (lines.Prop prop) e = refl
  line_kinds n (lines.Loop name) e = refl
  line_kinds n (lines.For name lo hi) e =
      let both = either_none (new_fault (meaning_of s name)) (terms_fault s lo hi) e in
      form_kinds n (loops_of s.blocks) (Repeats name (term_in s lo) (term_in s hi)) (two_indexed lo hi both.1) refl
  line_kinds n (lines.When rel left right) e = form_kinds n (loops_of s.blocks) (Guards (term_in s left) (term_in s right)) (two_indexed left right e) refl
  line_kinds n (lines.Set array at value) e =
      let both = either_none (either (target_fault (use_of s array)) (term_fault s at)) (value_fault s value) e in
      let front = either_none (target_fault (use_of s array)) (term_fault s at) both.0 in
      let of_value = value_kinds value both.1 in
      let all = and_both (indexed ds (term_in s at)) (list_all (indexed ds) (expr_terms (value_in s value))) (indexed_in at front.1) of_value.0 in
      let own = and_both (is_data ds (array_in s array)) true (target_is ds (use_of s array) (k array) front.0) refl in
      form_kinds n (loops_of s.blocks) (Sets (array_in s array) (term_in s at) (value_in s value)) all (all_both (is_data ds) (expr_arrays (value_in s value)) (array_in s array ∷ []) of_value.1 own)
  line_kinds n (lines.Keep name value) e =
      let both = either_none (kept_fault (meaning_of s name)) (value_fault s value) e in
      let of_value = value_kinds value both.1 in
      form_kinds n (loops_of s.blocks) (Keeps (local_in s name) (value_in s value)) of_value.0 of_value.1
  line_kinds n lines.End e = refl

-- lines that break no rule, in a scope that the lines above left
pub record Fine (ds : List Decl) (s : Scope) (ls : List Numbered) : Type 0 where
  pub declares : Declares ds s ls
  pub faultless : first_fault s ls ≡ None

pub fine_text : (ls : List (List ℕ)) → refusal ls ≡ None → Fine (decls_from empty (numbered ls)) empty (numbered ls)
fine_text ls e = record { declares = declares_first (numbered ls); faultless = faultless ls e }

pub fine_here : (ds : List Decl) (s : Scope) (l : Numbered) (ls : List Numbered) → Fine ds s (l ∷ ls) → AreUses ds s × (line_fault s l.line ≡ None) × Fine ds (scope_after s l) ls
fine_here ds s l ls h =
    let both = fine_first s l ls h.faultless in
    (are_uses ds s (l ∷ ls) h.declares, both.0, record { declares = declares_behind ds s l.number l.line ls h.declares; faultless = both.1 })

fine_line : (ds : List Decl) (s : Scope) (l : Numbered) (ls : List Numbered) → Fine ds s (l ∷ ls) → (list_all (uses_kinds ds) (body_line s l) ≡ true) × Fine ds (scope_after s l) ls
fine_line ds s l ls h = let f = fine_here ds s l ls h in (line_kinds ds s f.0 l.number l.line f.1, f.2)

pub kinds_are : (ls : List (List ℕ)) (nest : Nest) → IsRead ls nest → IsTrue (list_all (uses_kinds nest.decls) (text_body (numbered ls)))
kinds_are ls nest read =
    let ds = decls_from empty (numbered ls) in
    let all : list_all (uses_kinds ds) (text_body (numbered ls)) ≡ true = all_gathered (uses_kinds ds) body_line (Fine ds) (fine_line ds) empty (numbered ls) (fine_text ls read.accepted) in
    subst (λ (d : List Decl). list_all (uses_kinds d) (text_body (numbered ls)) ≡ true) (sym read.of_text.decls) all
