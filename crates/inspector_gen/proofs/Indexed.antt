-- The entries among the atoms of a system are those of index arrays, where its base and its properties name no others.
use Rattle.std.proofs.Common.{◌≡◌, Bool, true, false, cond, List, [], ◌∷◌, ◌++◌, sym, ap, ◌∙◌, subst, rules}
use Rattle.std.specs.Prelude.{◌==◌}
use Rattle.std.specs.List.{All, Contains, flat_map, list_all}
use Rattle.std.proofs.lemmas.List.Elements.{All-nil, All-cons, All-head, All-tail, All-append, All-push, All-contains}
use Rattle.wave_base.specs.declared.types.ArrayId.{ArrayId}
use Rattle.loop_core.specs.declared.decl.Decl.{Decl}
use Rattle.loop_core.specs.declared.decl.PropDecl.{PropDecl}
use Rattle.loop_core.specs.declared.decl.PropKind.{PropKind}
use Rattle.loop_core.specs.declared.decl.PropKind.TheVariants.{Range, Rising, Strict, Injective, Sorted, Below, Upto, Diagonal, Before}
use Rattle.loop_core.specs.declared.nest.Term.{Term, roll-Term, map-Term}
use Rattle.loop_core.specs.declared.nest.Atom.{Atom, out-Atom, roll-Atom, map-Atom, out-roll-Atom}
use Rattle.loop_core.specs.declared.nest.Atom as ATOM
use Rattle.loop_core.specs.declared.nest.Atom.TheVariants.{Zero, N, Nnz, At, outs-Zero, outs-N, outs-Nnz, outs-At}
use Rattle.loop_core.specs.declared.nest.Atom.TheOpen.{Atom-F, Term-F}
use Rattle.loop_core.specs.declared.nest.Atom.TheFolds.{ind-Atom}
use Rattle.loop_core.specs.Shape.{term_arrays}
use Rattle.loop_core.specs.Sizes.{is_index}
use Rattle.uf_constraints.specs.declared.system.Diff.{Diff}
use Rattle.uf_constraints.specs.Same.{is_listed}
use Rattle.uf_constraints.specs.Universe.{plain, next, atom_parts, term_parts, diff_parts, listed, all_listed, written_atoms, diagonal_atoms, asked_by, asked_beside, atoms_due}
use Rattle.index_props.specs.Sound.{NamesIndexes, AllNameIndexes}
use Rattle.dep_extract.proofs.Members.{both, parts}
use Rattle.inspector_gen.proofs.Sided.{arrays_of}

module _ (decls : List Decl) where
  -- an entry is one of an index array
  abbrev IsOfIndex : Atom-F Atom Term → Type 0
  IsOfIndex (Atom-F.At f t) = is_index decls f ≡ true
  IsOfIndex Atom-F.Zero = Unit {0}
  IsOfIndex Atom-F.N = Unit {0}
  IsOfIndex Atom-F.Nnz = Unit {0}
  IsOfIndex (Atom-F.Var v) = Unit {0}

  abbrev Is : Atom → Type 0
  Is x = IsOfIndex (out-Atom x)

  -- The parts of atoms and terms.

  abbrev AtomIsFine : Atom → Type 0
  AtomIsFine x = list_all (is_index decls) (arrays_of x) ≡ true → All Is (atom_parts x)

  abbrev TermIsFine : Term → Type 0
  TermIsFine t = list_all (is_index decls) (term_arrays t) ≡ true → All Is (term_parts t)

  at_fine : (f : ArrayId) (t : Term) → TermIsFine t → AtomIsFine (roll-Atom (Atom-F.At f t))
  at_fine f t fine h =
      let x : Atom = roll-Atom (Atom-F.At f t) in
      let same : arrays_of x ≡ term_arrays t ++ f ∷ [] = search (rules, ATOM.TheFolds.the_lemmas) in
      let all : atom_parts x ≡ term_parts t ++ x ∷ [] = search (rules, ATOM.TheFolds.the_lemmas) in
      let two = parts (is_index decls) (term_arrays t) (f ∷ []) (ap (list_all (is_index decls)) (sym same) ∙ h) in
      let last : Is x = subst IsOfIndex (sym (out-roll-Atom (Atom-F.At f t))) (both (is_index decls f) true two.1).0 in
      subst (All Is) (sym all) (All-push Is (term_parts t) x (fine two.0) last)

  one_part : (x : Atom-F Atom Term) → IsOfIndex x → atom_parts (roll-Atom x) ≡ roll-Atom x ∷ [] → AtomIsFine (roll-Atom x)
  one_part x is e h = subst (All Is) (sym e) (All-cons Is (roll-Atom x) [] (subst IsOfIndex (sym (out-roll-Atom x)) is) (All-nil Is))

  term_fine : (t : Term-F Atom Term) → AtomIsFine t.atom → TermIsFine (roll-Term t)
  term_fine t fine h =
      let same : term_arrays (roll-Term t) ≡ arrays_of t.atom = search (rules, ATOM.TheFolds.the_lemmas) in
      let all : term_parts (roll-Term t) ≡ atom_parts t.atom = search (rules, ATOM.TheFolds.the_lemmas) in
      subst (All Is) (sym all) (fine (ap (list_all (is_index decls)) (sym same) ∙ h))

  atom_from : {A B : Type 0} (pa : A → Atom) (pb : B → Term) → ((b : B) → TermIsFine (pb b)) → (y : Atom-F A B) (x : Atom-F Atom Term) → map-Atom A B Atom Term pa pb y ≡ x → AtomIsFine (roll-Atom x)
  atom_from pa pb fine (Atom-F.At f t) x is = subst (λ z. AtomIsFine (roll-Atom z)) is (at_fine f (pb t) (fine t))
  atom_from pa pb fine Atom-F.Zero x is = subst (λ z. AtomIsFine (roll-Atom z)) is (one_part Atom-F.Zero tt (search (rules, ATOM.TheFolds.the_lemmas)))
  atom_from pa pb fine Atom-F.N x is = subst (λ z. AtomIsFine (roll-Atom z)) is (one_part Atom-F.N tt (search (rules, ATOM.TheFolds.the_lemmas)))
  atom_from pa pb fine Atom-F.Nnz x is = subst (λ z. AtomIsFine (roll-Atom z)) is (one_part Atom-F.Nnz tt (search (rules, ATOM.TheFolds.the_lemmas)))
  atom_from pa pb fine (Atom-F.Var v) x is = subst (λ z. AtomIsFine (roll-Atom z)) is (one_part (Atom-F.Var v) tt (search (rules, ATOM.TheFolds.the_lemmas)))

  term_from : {A B : Type 0} (pa : A → Atom) (pb : B → Term) → ((x : A) → AtomIsFine (pa x)) → (y : Term-F A B) (x : Term-F Atom Term) → map-Term A B Atom Term pa pb y ≡ x → TermIsFine (roll-Term x)
  term_from {A} {B} pa pb fine y x is = subst (λ z. TermIsFine (roll-Term z)) is (term_fine (map-Term A B Atom Term pa pb y) (fine y.atom))

  parts_fine : (x : Atom) → AtomIsFine x
  parts_fine =
      ind-Atom AtomIsFine TermIsFine (λ x y is. atom_from (λ z. z.0) (λ z. z.0) (λ z. z.1) y x is) (λ x y is. term_from (λ z. z.0) (λ z. z.0) (λ z. z.1) y x is)

  -- The atoms of a system.

  abbrev pub DiffIndexed : Diff → Type 0
  DiffIndexed d = (list_all (is_index decls) (arrays_of d.a) ≡ true) × (list_all (is_index decls) (arrays_of d.b) ≡ true)

  base_fine : (base : List Diff) → All DiffIndexed base → All Is (flat_map diff_parts base)
  base_fine [] h = All-nil Is
  base_fine (d ∷ base) h =
      let t = All-head DiffIndexed d base h in
      All-append Is (diff_parts d) (flat_map diff_parts base)
      (All-append Is (atom_parts d.a) (atom_parts d.b) (parts_fine d.a t.0) (parts_fine d.b t.1))
      (base_fine base (All-tail DiffIndexed d base h))

  listed_fine : (atoms : List Atom) (x : Atom) → All Is atoms → Is x → All Is (listed atoms x)
  listed_fine atoms x old new =
      elim (is_listed atoms x) as (λ b. All Is (cond b atoms (atoms ++ x ∷ []))) [
        | true ↦ old
        | false ↦ All-push Is atoms x old new
      ]

  all_fine : (atoms more : List Atom) → All Is atoms → All Is more → All Is (all_listed atoms more)
  all_fine atoms [] old new = old
  all_fine atoms (x ∷ more) old new = all_fine (listed atoms x) more (listed_fine atoms x old (All-head Is x more new)) (All-tail Is x more new)

  sizes_fine : All Is (Zero ∷ N ∷ Nnz ∷ [])
  sizes_fine =
      All-cons Is Zero (N ∷ Nnz ∷ []) (subst IsOfIndex (sym outs-Zero) tt)
      (All-cons Is N (Nnz ∷ []) (subst IsOfIndex (sym outs-N) tt)
      (All-cons Is Nnz [] (subst IsOfIndex (sym outs-Nnz) tt) (All-nil Is)))

  entry_fine : (f : ArrayId) (t : Term) → is_index decls f ≡ true → Is (At f t)
  entry_fine f t h = subst IsOfIndex (sym (outs-At f t)) h

  asked_fine : (x : Atom) (l : Atom-F Atom Term) (kind : PropKind) → NamesIndexes decls kind → All Is (diagonal_atoms x l kind)
  asked_fine x (Atom-F.At array t) (Diagonal d f p) h = by (array.0 == d.0)
    where
      by : (b : Bool) → All Is (cond b (At f (plain x) ∷ At p t ∷ At p (next t) ∷ []) [])
      by false = All-nil Is
      by true =
          All-cons Is (At f (plain x)) (At p t ∷ At p (next t) ∷ []) (entry_fine f (plain x) h.1)
          (All-cons Is (At p t) (At p (next t) ∷ []) (entry_fine p t h.2)
          (All-cons Is (At p (next t)) [] (entry_fine p (next t) h.2) (All-nil Is)))
  asked_fine x (Atom-F.At array t) (Range f lo hi) h = All-nil Is
  asked_fine x (Atom-F.At array t) (Rising p) h = All-nil Is
  asked_fine x (Atom-F.At array t) (Strict p) h = All-nil Is
  asked_fine x (Atom-F.At array t) (Injective f) h = All-nil Is
  asked_fine x (Atom-F.At array t) (Sorted f p) h = All-nil Is
  asked_fine x (Atom-F.At array t) (Below f p) h = All-nil Is
  asked_fine x (Atom-F.At array t) (Upto f p) h = All-nil Is
  asked_fine x (Atom-F.At array t) (Before f g) h = All-nil Is
  asked_fine x Atom-F.Zero kind h = All-nil Is
  asked_fine x Atom-F.N kind h = All-nil Is
  asked_fine x Atom-F.Nnz kind h = All-nil Is
  asked_fine x (Atom-F.Var v) kind h = All-nil Is

  asked_by_fine : (props : List PropDecl) (x : Atom) → AllNameIndexes decls props → All Is (flat_map (asked_by x) props)
  asked_by_fine [] x h = All-nil Is
  asked_by_fine (p ∷ props) x h =
      let P : PropDecl → Type 0 = λ q. NamesIndexes decls q.kind in
      All-append Is (asked_by x p) (flat_map (asked_by x) props) (asked_fine x (out-Atom x) p.kind (All-head P p props h)) (asked_by_fine props x (All-tail P p props h))

  all_asked_fine : (props : List PropDecl) (atoms : List Atom) → AllNameIndexes decls props → All Is (flat_map (asked_beside props) atoms)
  all_asked_fine props [] h = All-nil Is
  all_asked_fine props (x ∷ atoms) h = All-append Is (asked_beside props x) (flat_map (asked_beside props) atoms) (asked_by_fine props x h) (all_asked_fine props atoms h)

  due_fine : (base : List Diff) (props : List PropDecl) → AllNameIndexes decls props → All DiffIndexed base → All Is (atoms_due base [] props)
  due_fine base props names h =
      let written = written_atoms base [] in
      all_fine written (flat_map (asked_beside props) written)
      (all_fine (all_listed (Zero ∷ N ∷ Nnz ∷ []) (flat_map diff_parts base)) [] (all_fine (Zero ∷ N ∷ Nnz ∷ []) (flat_map diff_parts base) sizes_fine (base_fine base h)) (All-nil Is))
      (all_asked_fine props written names)

  pub entries_indexed : (base : List Diff) (props : List PropDecl) → AllNameIndexes decls props → All DiffIndexed base → (f : ArrayId) (t : Term) → Contains (atoms_due base [] props) (At f t) → is_index decls f ≡ true
  entries_indexed base props names h f t c =
      subst IsOfIndex (outs-At f t) (All-contains Is (atoms_due base [] props) (At f t) (due_fine base props names h) c)
