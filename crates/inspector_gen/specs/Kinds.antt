-- How a variable gets its values from those before it.
use Rattle.std.specs.Prelude.{ℤ, pos, negsuc, ◌+ℤ◌, ◌-ℤ◌, Bool, false, ◌&&◌, ◌==◌, if◌then◌else◌, Option, Some, None, List, [], ◌∷◌, ◌++◌, map, slice_get}
use Rattle.std.specs.List.{flat_map, list_all, list_any}
use Rattle.wave_base.specs.declared.types.ArrayId.{ArrayId}
use Rattle.loop_core.specs.declared.decl.Decl.{Decl}
use Rattle.loop_core.specs.declared.decl.PropDecl.{PropDecl}
use Rattle.loop_core.specs.declared.decl.PropKind.{PropKind}
use Rattle.loop_core.specs.declared.decl.PropKind.TheVariants.{Rising, Strict}
use Rattle.loop_core.specs.declared.nest.VarId.{VarId}
use Rattle.loop_core.specs.declared.nest.Atom.{Atom, out-Atom}
use Rattle.loop_core.specs.declared.nest.Atom.TheVariants.{Var, At}
use Rattle.loop_core.specs.declared.nest.Atom.TheOpen.{Atom-F}
use Rattle.loop_core.specs.declared.nest.Term.{Term}
use Rattle.loop_core.specs.Binding.{same_variable}
use Rattle.uf_constraints.specs.Same.{is_listed}
use Rattle.uf_constraints.specs.Universe.{next}
use Rattle.index_props.specs.Entries.{entry_of}
use Rattle.index_props.specs.Rules.{ok}
use Rattle.inspector_run.specs.IsPlan.{atom_vars, is_among}
use Rattle.inspector_gen.specs.declared.kind.Kind.{Kind}
use Rattle.inspector_gen.specs.declared.kind.Kind.TheVariants.{Given, Found, Located, Looped}
use Rattle.inspector_gen.specs.declared.kind.Way.{Way}
use Rattle.inspector_gen.specs.declared.kind.Way.TheVariants as ways
use Rattle.inspector_gen.specs.Known.{Bounds, knows, constant_between}

-- what a plan is made from: declarations, properties, the atoms of a system, and the least bounds that are known
pub record Facts : Type 0 where
  pub decls : List Decl
  pub props : List PropDecl
  pub atoms : List Atom
  pub bounds : Bounds

-- all variables of the atom come earlier
abbrev pub is_fixed : List VarId → Atom → Bool
is_fixed earlier a = list_all (is_among earlier) (atom_vars a)

abbrev pub term_of : Atom → ℤ → Term
term_of a c = record { atom = a; plus = c }

-- v + c, and the entry there
abbrev pub place : VarId → ℤ → Term
place v plus = term_of (Var v) plus

abbrev pub entry_at : VarId → ArrayId → ℤ → Atom
entry_at v array plus = At array (place v plus)

-- By an atom a, in each way:
--   given: v = a + c
--   found: f[v+c] = a + e
--   located: p[v+c] <= a + e with the least such e, and a + e < p[v+c+1]

-- e, alone, where a + e is below another atom
abbrev pub if_below : Bounds → Atom → Atom → Option ℤ → List ℤ
if_below bounds a after None = []
if_below bounds a after (Some e) = if knows bounds (record { a = a; b = after; c = negsuc 0 -ℤ e }) then e ∷ [] else []

abbrev pub constants : Bounds → VarId → Way → Atom → List ℤ
constants bounds v ways.Given a = constant_between bounds (Var v) a
constants bounds v (ways.Found array plus) a = constant_between bounds (entry_at v array plus) a
constants bounds v (ways.Located array plus) a = if_below bounds a (entry_at v array (plus +ℤ pos 1)) (bounds (entry_at v array plus) a)

abbrev pub kind_with : Way → Term → Kind
kind_with ways.Given term = Given term
kind_with (ways.Found array plus) term = Found array plus term
kind_with (ways.Located array plus) term = Located array plus term

abbrev pub kinds_by : Facts → VarId → Way → Atom → List Kind
kinds_by f v way a = map (λ c. kind_with way (term_of a c)) (constants f.bounds v way a)

abbrev pub kinds_if_fixed : Facts → List VarId → VarId → Way → Atom → List Kind
kinds_if_fixed f earlier v way a = if is_fixed earlier a then kinds_by f v way a else []

-- by the atoms that come earlier, in their order
abbrev pub kinds_along : Facts → List VarId → VarId → Way → List Kind
kinds_along f earlier v way = flat_map (kinds_if_fixed f earlier v way) f.atoms

-- At an entry f[v+c] of the system where v + c is a place of f, and so is v + c + 1 of an array that rises.

abbrev pub is_variable : VarId → Atom-F Atom Term → Bool
is_variable v (Atom-F.Var w) = same_variable w v
is_variable v Atom-F.Zero = false
is_variable v Atom-F.N = false
is_variable v Atom-F.Nnz = false
is_variable v (Atom-F.At array inner) = false

abbrev pub is_place : Facts → ArrayId → Term → Bool
is_place f array t = list_all (knows f.bounds) (ok (entry_of f.decls array t))

abbrev pub makes_rising : ArrayId → PropKind → Bool
makes_rising p (Rising q) = q.0 == p.0
makes_rising p (Strict q) = q.0 == p.0
makes_rising p _ = false

abbrev pub is_rising : List PropDecl → ArrayId → Bool
is_rising props p = list_any (λ d. makes_rising p d.kind) props

abbrev pub may_find : Facts → VarId → ArrayId → Term → Bool
may_find f v array t = is_variable v (out-Atom t.atom) && is_place f array t

abbrev pub may_locate : Facts → VarId → ArrayId → Term → Bool
may_locate f v array t =
    may_find f v array t && (is_rising f.props array && (is_listed f.atoms (At array (next t)) && is_place f array (next t)))

abbrev pub found_in : Facts → List VarId → VarId → Atom-F Atom Term → List Kind
found_in f earlier v (Atom-F.At array t) = if may_find f v array t then kinds_along f earlier v (ways.Found array t.plus) else []
found_in f earlier v Atom-F.Zero = []
found_in f earlier v Atom-F.N = []
found_in f earlier v Atom-F.Nnz = []
found_in f earlier v (Atom-F.Var w) = []

abbrev pub located_in : Facts → List VarId → VarId → Atom-F Atom Term → List Kind
located_in f earlier v (Atom-F.At array t) = if may_locate f v array t then kinds_along f earlier v (ways.Located array t.plus) else []
located_in f earlier v Atom-F.Zero = []
located_in f earlier v Atom-F.N = []
located_in f earlier v Atom-F.Nnz = []
located_in f earlier v (Atom-F.Var w) = []

abbrev pub found_at : Facts → List VarId → VarId → Atom → List Kind
found_at f earlier v a = found_in f earlier v (out-Atom a)

abbrev pub located_at : Facts → List VarId → VarId → Atom → List Kind
located_at f earlier v a = located_in f earlier v (out-Atom a)

-- The first that there is of given, found and located; else looped.

abbrev pub candidates : Facts → List VarId → VarId → List Kind
candidates f earlier v =
    kinds_along f earlier v ways.Given ++ (flat_map (found_at f earlier v) f.atoms ++ flat_map (located_at f earlier v) f.atoms)

abbrev pub first_of : List Kind → Option Kind
first_of kinds = slice_get kinds 0

abbrev pub or_looped : Option Kind → Kind
or_looped (Some kind) = kind
or_looped None = Looped

abbrev pub kind_of : Facts → List VarId → VarId → Kind
kind_of f earlier v = or_looped (first_of (candidates f earlier v))
