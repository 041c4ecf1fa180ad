-- The atoms of a system of constraints, in their order.
use Rattle.std.specs.Prelude.{pos, ◌+ℤ◌, ◌==◌, if◌then◌else◌, List, [], ◌∷◌, ◌++◌, fold}
use Rattle.std.specs.List.{flat_map}
use Rattle.loop_core.specs.declared.decl.PropDecl.{PropDecl}
use Rattle.loop_core.specs.declared.decl.PropKind.{PropKind}
use Rattle.loop_core.specs.declared.decl.PropKind.TheVariants.{Diagonal}
use Rattle.loop_core.specs.declared.nest.Term.{Term}
use Rattle.loop_core.specs.declared.nest.Atom.{Atom, out-Atom}
use Rattle.loop_core.specs.declared.nest.Atom.TheVariants.{Zero, N, Nnz, At}
use Rattle.loop_core.specs.declared.nest.Atom.TheOpen.{Atom-F, Term-F}
use Rattle.loop_core.specs.declared.nest.Atom.TheFolds.{fold-Atom, fold-Term}
use Rattle.uf_constraints.specs.declared.system.Diff.{Diff}
use Rattle.uf_constraints.specs.Same.{is_listed}

abbrev pub plain : Atom → Term
plain a = record { atom = a; plus = pos 0 }

-- the term with a constant that is greater by 1
abbrev pub next : Term → Term
next t = record { atom = t.atom; plus = t.plus +ℤ pos 1 }

-- what stands before an atom: the atoms of the term inside it
abbrev pub parts_before : Atom-F (Atom → List Atom) (Term → List Atom) → Atom-F Atom Term → List Atom
parts_before (Atom-F.At f inner) (Atom-F.At g t) = inner t
parts_before _ _ = []

abbrev pub parts_step : Atom-F (Atom → List Atom) (Term → List Atom) → Atom → List Atom
parts_step layer a = parts_before layer (out-Atom a) ++ a ∷ []

abbrev pub term_parts_step : Term-F (Atom → List Atom) (Term → List Atom) → Term → List Atom
term_parts_step layer t = layer.atom t.atom

-- the atoms in an atom and in a term, each after those inside it, so the atom itself is last
abbrev pub atom_parts : Atom → List Atom
atom_parts a = fold-Atom (Atom → List Atom) (Term → List Atom) parts_step term_parts_step a a

abbrev pub term_parts : Term → List Atom
term_parts t = fold-Term (Atom → List Atom) (Term → List Atom) parts_step term_parts_step t t

-- the atoms in a constraint, left before right
abbrev pub diff_parts : Diff → List Atom
diff_parts d = atom_parts d.a ++ atom_parts d.b

-- the list with an atom at its end, where it wasn't listed
abbrev pub listed : List Atom → Atom → List Atom
listed atoms a = if is_listed atoms a then atoms else atoms ++ a ∷ []

-- the list with atoms added in their order, without repeats
abbrev pub all_listed : List Atom → List Atom → List Atom
all_listed atoms more = fold listed atoms more

-- 0, n and nnz, and then the atoms of the base and of the further terms
abbrev pub written_atoms : List Diff → List Term → List Atom
written_atoms base extra =
    all_listed (all_listed (Zero ∷ N ∷ Nnz ∷ []) (flat_map diff_parts base)) (flat_map term_parts extra)

-- beside d[t] a `diagonal d of f by p` asks for f[d[t]], p[t] and p[t+1]
abbrev pub diagonal_atoms : Atom → Atom-F Atom Term → PropKind → List Atom
diagonal_atoms a (Atom-F.At array t) (Diagonal d f p) =
    if array.0 == d.0 then At f (plain a) ∷ At p t ∷ At p (next t) ∷ [] else []
diagonal_atoms a _ _ = []

abbrev pub asked_by : Atom → PropDecl → List Atom
asked_by a prop = diagonal_atoms a (out-Atom a) prop.kind

abbrev pub asked_beside : List PropDecl → Atom → List Atom
asked_beside props a = flat_map (asked_by a) props

-- the atoms that are due: those written, and what the properties ask for beside them
abbrev pub atoms_due : List Diff → List Term → List PropDecl → List Atom
atoms_due base extra props =
    let written = written_atoms base extra in all_listed written (flat_map (asked_beside props) written)
