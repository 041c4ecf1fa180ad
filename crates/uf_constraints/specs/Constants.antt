-- How large the constants of terms are.
use Rattle.std.specs.Prelude.{ℕ, Bool, true, ◌&&◌, ◌≤◌, IsTrue, nat_le, unsigned_abs, List}
use Rattle.std.specs.List.{All}
use Rattle.loop_core.specs.declared.nest.Term.{Term}
use Rattle.loop_core.specs.declared.nest.Atom.{Atom, out-Atom}
use Rattle.loop_core.specs.declared.nest.Atom.TheOpen.{Atom-F, Term-F}
use Rattle.loop_core.specs.declared.nest.Atom.TheFolds.{fold-Atom, fold-Term}
use Rattle.uf_constraints.specs.declared.system.Diff.{Diff}

abbrev pub within_step : Atom-F Bool Bool → Bool
within_step (Atom-F.At array inner) = inner
within_step Atom-F.Zero = true
within_step Atom-F.N = true
within_step Atom-F.Nnz = true
within_step (Atom-F.Var var) = true

abbrev pub term_within_step : ℕ → Term-F Bool Bool → Bool
term_within_step k t = t.atom && nat_le (unsigned_abs t.plus) k

-- each constant in an atom and in a term, inner ones too, is from -k to k
abbrev pub atom_within : ℕ → Atom → Bool
atom_within k = fold-Atom Bool Bool within_step (term_within_step k)

abbrev pub term_within : ℕ → Term → Bool
term_within k = fold-Term Bool Bool within_step (term_within_step k)

abbrev pub TermsWithin : ℕ → List Term → Type 0
TermsWithin k terms = All (λ t. IsTrue (term_within k t)) terms

-- each constant in the atoms of a constraint is from -k to k
abbrev pub DiffsWithin : ℕ → List Diff → Type 0
DiffsWithin k base = All (λ d. IsTrue (atom_within k d.a) × IsTrue (atom_within k d.b)) base

-- the constant of the term just inside an atom, where there is one, is from -k to k
abbrev pub IndexWithin : ℕ → Atom-F Atom Term → Type 0
IndexWithin k (Atom-F.At array t) = unsigned_abs t.plus ≤ k
IndexWithin k Atom-F.Zero = Unit {0}
IndexWithin k Atom-F.N = Unit {0}
IndexWithin k Atom-F.Nnz = Unit {0}
IndexWithin k (Atom-F.Var var) = Unit {0}

abbrev pub IndexesWithin : ℕ → List Atom → Type 0
IndexesWithin k atoms = All (λ a. IndexWithin k (out-Atom a)) atoms
