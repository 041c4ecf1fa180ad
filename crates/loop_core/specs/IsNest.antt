-- When a nest is one that the loop language can say.
use Rattle.std.specs.Prelude.{◌≡◌, ℕ, ◌≤◌, ◌^◌, ℤ, pos, negsuc, int_le, Bool, true, false, IsTrue, ◌&&◌, not, nat_lt, List, [], ◌∷◌, ◌++◌, map, length, slice_get, Option, Some}
use Rattle.std.specs.List.{list_all, list_any, count_by, filter, flat_map}
use Rattle.wave_base.specs.declared.types.ArrayId.{ArrayId}
use Rattle.loop_core.specs.declared.decl.Decl.{Decl}
use Rattle.loop_core.specs.declared.decl.DeclKind.{DeclKind}
use Rattle.loop_core.specs.declared.decl.DeclKind.TheVariants.{Matrix, Index, Vector}
use Rattle.loop_core.specs.declared.decl.Size.{Size}
use Rattle.loop_core.specs.declared.decl.Size.TheVariants.{N, NPlusOne, Nnz}
use Rattle.loop_core.specs.declared.decl.PropKind.{PropKind}
use Rattle.loop_core.specs.declared.decl.PropKind.TheVariants.{Range, Rising, Strict, Injective, Sorted, Below, Upto, Diagonal, Before}
use Rattle.loop_core.specs.declared.nest.Atom.TheOpen.{Atom-F}
use Rattle.loop_core.specs.declared.nest.Atom.TheFolds.{fold-Term}
use Rattle.loop_core.specs.declared.nest.Term.{Term}
use Rattle.loop_core.specs.declared.nest.VarId.{VarId}
use Rattle.loop_core.specs.declared.nest.Side.TheVariants.{Own}
use Rattle.loop_core.specs.declared.nest.Nest.{Nest}
use Rattle.loop_core.specs.Binding.{same_variable}
use Rattle.loop_core.specs.Depth.{body_depth}
use Rattle.loop_core.specs.Names.{same_name, is_name, are_distinct}
use Rattle.loop_core.specs.Shape.{Loop, Line, body_lines, line_terms, line_arrays, line_numbers, line_names, line_locals, is_target, term_vars, term_arrays, term_constants}
use Rattle.loop_core.specs.Sizes.{sizes, is_index, is_data}

-- Declarations. A local is a declared name too.

abbrev pub is_matrix : DeclKind → Bool
is_matrix (Matrix form) = true
is_matrix (Index size) = false
is_matrix (Vector size source) = false

abbrev pub declared_names : Nest → List (List ℕ)
declared_names nest = map (λ d. d.name) nest.decls ++ map (λ l. l.name) nest.locals

-- Properties.

abbrev pub same_size : Size → Size → Bool
same_size N N = true
same_size NPlusOne NPlusOne = true
same_size Nnz Nnz = true
same_size _ _ = false

abbrev pub both_same : Option Size → Option Size → Bool
both_same (Some a) (Some b) = same_size a b
both_same _ _ = false

abbrev pub has_size : List Decl → ArrayId → Size → Bool
has_size decls array size = both_same (slice_get (sizes decls) array.0) (Some size)

-- a number, or `n` or `nnz` with a number
abbrev pub atom_is_bound : Atom-F Bool Bool → Bool
atom_is_bound Atom-F.Zero = true
atom_is_bound Atom-F.N = true
atom_is_bound Atom-F.Nnz = true
atom_is_bound (Atom-F.Var var) = false
atom_is_bound (Atom-F.At array inner) = false

abbrev pub is_bound : Term → Bool
is_bound = fold-Term Bool Bool atom_is_bound (λ t. t.atom)

-- the arrays that a property names are index arrays, with the lengths that it asks
abbrev pub names_arrays : List Decl → PropKind → Bool
names_arrays decls (Range f lo hi) = is_index decls f && is_bound lo && is_bound hi
names_arrays decls (Rising p) = is_index decls p
names_arrays decls (Strict p) = is_index decls p
names_arrays decls (Injective f) = is_index decls f
names_arrays decls (Sorted f p) = is_index decls f && is_index decls p && has_size decls p NPlusOne
names_arrays decls (Below f p) = is_index decls f && is_index decls p && has_size decls p NPlusOne
names_arrays decls (Upto f p) = is_index decls f && is_index decls p && has_size decls p NPlusOne
names_arrays decls (Diagonal d f p) = is_index decls d && is_index decls f && is_index decls p && has_size decls d N && has_size decls p NPlusOne
names_arrays decls (Before f g) = is_index decls f && is_index decls g && both_same (slice_get (sizes decls) f.0) (slice_get (sizes decls) g.0)

abbrev pub bounds_of : PropKind → List Term
bounds_of (Range f lo hi) = lo ∷ hi ∷ []
bounds_of _ = []

-- Lines of the body.

-- a loop's variable is no declared name, and no variable of a loop round it
abbrev pub names_anew : Nest → Line → Bool
names_anew nest l = list_all (λ name. not (list_any (same_name name) (declared_names nest ++ map (λ o. o.name) l.around))) (line_names l.form)

-- each variable is that of a loop round the line
abbrev pub is_round : List Loop → VarId → Bool
is_round around var = list_any (λ o. same_variable (record { line = o.line; side = Own }) var) around

abbrev pub knows_variables : Line → Bool
knows_variables l = list_all (is_round l.around) (flat_map term_vars (line_terms l.form))

-- index terms use index arrays; expressions and targets use data arrays
abbrev pub uses_kinds : List Decl → Line → Bool
uses_kinds decls l =
    list_all (is_index decls) (flat_map term_arrays (line_terms l.form))
    && list_all (is_data decls) (line_arrays l.form)

-- the references on a line to arrays that the nest writes
abbrev pub references_on : Nest → Line → List ArrayId
references_on nest l = filter (is_target nest) (line_arrays l.form)

-- each local on a line is a declared one
abbrev pub knows_locals : Nest → Line → Bool
knows_locals nest l = list_all (λ local. nat_lt local (length nest.locals)) (line_locals l.form)

-- Numbers.

-- from -1,048,576 to 1,048,576
abbrev pub is_constant : ℤ → Bool
is_constant z = int_le (negsuc 1048575) z && int_le z (pos 1048576)

abbrev pub has_constants : Term → Bool
has_constants t = list_all is_constant (term_constants t)

-- from 0 to 2 ^ 63 - 1
abbrev pub is_literal : ℤ → Bool
is_literal (pos n) = nat_lt n (2 ^ 63)
is_literal (negsuc n) = false

-- each number is above those before it
abbrev pub rises_from : ℕ → List ℕ → Bool
rises_from n [] = true
rises_from n (k ∷ ks) = nat_lt n k && rises_from k ks

-- A nest that the loop language can say, the number and the length of its lines aside.
pub record IsNest (nest : Nest) : Type 0 where
  pub one_matrix : count_by (λ d. is_matrix d.kind) nest.decls ≡ 1
  pub names : IsTrue (list_all is_name (declared_names nest ++ nest.name ∷ flat_map (λ l. line_names l.form) (body_lines nest)))
  pub distinct : IsTrue (are_distinct (nest.name ∷ declared_names nest))
  pub anew : IsTrue (list_all (names_anew nest) (body_lines nest))
  pub few_arrays : length (sizes nest.decls) ≤ 64
  pub few_locals : length nest.locals ≤ 16
  pub properties : IsTrue (list_all (λ p. names_arrays nest.decls p.kind) nest.props)
  pub bounds : IsTrue (list_all has_constants (flat_map (λ p. bounds_of p.kind) nest.props))
  pub in_scope : IsTrue (list_all knows_variables (body_lines nest))
  pub of_locals : IsTrue (list_all (knows_locals nest) (body_lines nest))
  pub of_kinds : IsTrue (list_all (uses_kinds nest.decls) (body_lines nest))
  pub constants : IsTrue (list_all has_constants (flat_map (λ l. line_terms l.form) (body_lines nest)))
  pub literals : IsTrue (list_all is_literal (flat_map (λ l. line_numbers l.form) (body_lines nest)))
  pub shallow : body_depth nest.body ≤ 5
  pub few_references : length (flat_map (references_on nest) (body_lines nest)) ≤ 16
  pub rising : IsTrue (rises_from nest.line (map (λ l. l.number) (body_lines nest)))
