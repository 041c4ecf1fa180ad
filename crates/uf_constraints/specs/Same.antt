-- Equal terms, as a test.
use Rattle.std.specs.Prelude.{Bool, true, false, ◌&&◌, ◌==◌, List}
use Rattle.std.specs.List.{list_any}
use Rattle.std.specs.Ordering.{int_eq}
use Rattle.loop_core.specs.declared.nest.Term.{Term}
use Rattle.loop_core.specs.declared.nest.Atom.{Atom, out-Atom}
use Rattle.loop_core.specs.declared.nest.Atom.TheOpen.{Atom-F, Term-F}
use Rattle.loop_core.specs.declared.nest.Atom.TheFolds.{fold-Atom, fold-Term}
use Rattle.loop_core.specs.Binding.{same_variable}

-- two atoms of one kind, with the test of the inner term in its place
abbrev pub same_open : Atom-F (Atom → Bool) (Term → Bool) → Atom-F Atom Term → Bool
same_open Atom-F.Zero Atom-F.Zero = true
same_open Atom-F.N Atom-F.N = true
same_open Atom-F.Nnz Atom-F.Nnz = true
same_open (Atom-F.Var v) (Atom-F.Var w) = same_variable v w
same_open (Atom-F.At f inner) (Atom-F.At g t) = (f.0 == g.0) && inner t
same_open _ _ = false

abbrev pub same_step : Atom-F (Atom → Bool) (Term → Bool) → Atom → Bool
same_step a b = same_open a (out-Atom b)

abbrev pub same_term_step : Term-F (Atom → Bool) (Term → Bool) → Term → Bool
same_term_step t u = t.atom u.atom && int_eq t.plus u.plus

abbrev pub same_atom : Atom → Atom → Bool
same_atom = fold-Atom (Atom → Bool) (Term → Bool) same_step same_term_step

abbrev pub same_term : Term → Term → Bool
same_term = fold-Term (Atom → Bool) (Term → Bool) same_step same_term_step

-- the atom is among those listed
abbrev pub is_listed : List Atom → Atom → Bool
is_listed atoms a = list_any (same_atom a) atoms
