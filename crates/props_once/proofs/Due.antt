-- A property that is declared again asks for no further atom.
use Rattle.std.proofs.Common.{◌≡◌, Bool, true, false, cond, List, [], ◌∷◌, ◌++◌, append_assoc, arith, zero, suc, refl, sym, ap, ◌∙◌, subst}
use Rattle.std.specs.Prelude.{fold}
use Rattle.std.specs.List.{Contains, flat_map}
use Rattle.std.proofs.lemmas.List.{append-nil}
use Rattle.std.proofs.lemmas.List.Elements.{Contains-append_left, Contains-append_right, Contains-push}
use Rattle.loop_core.specs.declared.decl.PropDecl.{PropDecl}
use Rattle.loop_core.specs.declared.decl.PropKind.{PropKind}
use Rattle.loop_core.specs.declared.nest.Term.{Term}
use Rattle.loop_core.specs.declared.nest.Atom.{Atom, out-Atom}
use Rattle.uf_constraints.specs.declared.system.Diff.{Diff}
use Rattle.uf_constraints.specs.Same.{is_listed}
use Rattle.uf_constraints.specs.Universe.{listed, all_listed, written_atoms, diagonal_atoms, asked_by, asked_beside, atoms_due}
use Rattle.uf_constraints.proofs.Equal.{is_among, listed_is}
use Rattle.props_once.specs.Repeats.{is_declared, kept, without_repeats}
use Rattle.props_once.proofs.Kept.{declared_is, known}
use Rattle.props_once.proofs.Derived.{in_flat}

-- Lists of atoms.

all_append : (xs ys atoms : List Atom) → all_listed atoms (xs ++ ys) ≡ all_listed (all_listed atoms xs) ys
all_append [] ys atoms = refl
all_append (x ∷ xs) ys atoms = all_append xs ys (listed atoms x)

there : (atoms : List Atom) (a : Atom) → Contains atoms a → listed atoms a ≡ atoms
there atoms a h = ap (λ b. cond b atoms (atoms ++ a ∷ [])) (is_among atoms a h)

all_there : (xs atoms : List Atom) → ((a : Atom) → Contains xs a → Contains atoms a) → all_listed atoms xs ≡ atoms
all_there [] atoms h = refl
all_there (x ∷ xs) atoms h =
    ap (λ l. all_listed l xs) (there atoms x (h x (Contains-append_left (x ∷ []) xs x (Contains-push [] x))))
    ∙ all_there xs atoms (λ a c. h a (behind x xs a c))
  where
    behind : (x : Atom) (xs : List Atom) (a : Atom) → Contains xs a → Contains (x ∷ xs) a
    behind x xs a c = Contains-append_right (x ∷ []) xs a c

listed_keeps : (atoms : List Atom) (a b : Atom) → Contains atoms b → Contains (listed atoms a) b
listed_keeps atoms a b h = elim (is_listed atoms a) as (λ t. Contains (cond t atoms (atoms ++ a ∷ [])) b) [ true ↦ h | false ↦ Contains-append_left atoms (a ∷ []) b h ]

listed_has : (atoms : List Atom) (a : Atom) → Contains (listed atoms a) a
listed_has atoms a = known (λ t. Contains (cond t atoms (atoms ++ a ∷ [])) a) (is_listed atoms a) (λ e. listed_is atoms a e) (λ e. Contains-push atoms a)

keeps : (more atoms : List Atom) (b : Atom) → Contains atoms b → Contains (all_listed atoms more) b
keeps [] atoms b h = h
keeps (a ∷ more) atoms b h = keeps more (listed atoms a) b (listed_keeps atoms a b h)

has : (more atoms : List Atom) (b : Atom) → Contains more b → Contains (all_listed atoms more) b
has [] atoms b (k, l, e) = absurd (omega arith)
has (a ∷ more) atoms b (zero, l, e) = subst (Contains (all_listed (listed atoms a) more)) e (keeps more (listed atoms a) a (listed_has atoms a))
has (a ∷ more) atoms b (suc k, l, e) = has more (listed atoms a) b (k, omega arith, e)

-- What properties ask for beside one atom.

module _ (a : Atom) where
  abbrev by_kind : PropKind → List Atom
  by_kind kind = diagonal_atoms a (out-Atom a) kind

  abbrev asked : List PropDecl → List Atom
  asked props = flat_map (asked_by a) props

  flat_append : (xs ys : List PropDecl) → asked (xs ++ ys) ≡ asked xs ++ asked ys
  flat_append [] ys = refl
  flat_append (x ∷ xs) ys = ap (λ l. asked_by a x ++ l) (flat_append xs ys) ∙ sym (append_assoc (asked_by a x) (asked xs) (asked ys))

  -- a property that is declared already asks for what is listed
  again : (acc : List PropDecl) (p : PropDecl) (props : List PropDecl) (atoms : List Atom) → is_declared acc p.kind ≡ true
      → all_listed atoms (asked (acc ++ props)) ≡ all_listed atoms (asked (acc ++ p ∷ props))
  again acc p props atoms e =
      let q = declared_is acc p.kind e in
      let old : List Atom = all_listed atoms (asked acc) in
      let inside : (b : Atom) → Contains (asked_by a p) b → Contains old b =
      λ b c. has (asked acc) atoms b (in_flat (asked_by a) acc q.0 b q.1 (subst (λ k. Contains (by_kind k) b) (sym q.2) c)) in
      ap (all_listed atoms) (flat_append acc props)
      ∙ all_append (asked acc) (asked props) atoms
      ∙ ap (λ l. all_listed l (asked props)) (sym (all_there (asked_by a p) old inside))
      ∙ sym (all_append (asked_by a p) (asked props) old)
      ∙ sym (all_append (asked acc) (asked (p ∷ props)) atoms)
      ∙ sym (ap (all_listed atoms) (flat_append acc (p ∷ props)))

  beside : (props acc : List PropDecl) (atoms : List Atom) → all_listed atoms (asked (fold kept acc props)) ≡ all_listed atoms (asked (acc ++ props))
  beside [] acc atoms = ap (λ l. all_listed atoms (asked l)) (sym (append-nil acc))
  beside (p ∷ props) acc atoms =
      known (λ b. all_listed atoms (asked (fold kept (cond b acc (acc ++ p ∷ [])) props)) ≡ all_listed atoms (asked (acc ++ p ∷ props))) (is_declared acc p.kind)
      (λ e. beside props acc atoms ∙ again acc p props atoms e)
      (λ e. beside props (acc ++ p ∷ []) atoms ∙ ap (λ l. all_listed atoms (asked l)) (append_assoc acc (p ∷ []) props))

beside_all : (props : List PropDecl) (ws atoms : List Atom) → all_listed atoms (flat_map (asked_beside (without_repeats props)) ws) ≡ all_listed atoms (flat_map (asked_beside props) ws)
beside_all props [] atoms = refl
beside_all props (w ∷ ws) atoms =
    let once = without_repeats props in
    all_append (asked_beside once w) (flat_map (asked_beside once) ws) atoms
    ∙ ap (λ l. all_listed l (flat_map (asked_beside once) ws)) (beside w props [] atoms)
    ∙ beside_all props ws (all_listed atoms (asked_beside props w))
    ∙ sym (all_append (asked_beside props w) (flat_map (asked_beside props) ws) atoms)

pub due-once : (base : List Diff) (extra : List Term) (props : List PropDecl) → atoms_due base extra (without_repeats props) ≡ atoms_due base extra props
due-once base extra props = beside_all props (written_atoms base extra) (written_atoms base extra)
