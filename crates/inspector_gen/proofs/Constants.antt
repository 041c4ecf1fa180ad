-- The constants in the atoms of a system are small.
use Rattle.std.proofs.Common.{◌≡◌, ℕ, ◌+◌, ◌≤◌, ◌^◌, IsTrue, Bool, true, false, ◌&&◌, cond, nat_le, unsigned_abs, List, [], ◌∷◌, pos, sym, ◌∙◌, subst, rules, arith}
use Rattle.std.specs.Prelude.{◌==◌, ◌+ℤ◌}
use Rattle.std.specs.List.{All, Contains, flat_map}
use Rattle.std.proofs.lemmas.Int.{ints}
use Rattle.std.proofs.lemmas.Bool.Decides.{nat_tests}
use Rattle.std.proofs.lemmas.List.Elements.{All-nil, All-cons, All-head, All-tail, All-append, All-contains}
use Rattle.wave_base.specs.declared.types.ArrayId.{ArrayId}
use Rattle.loop_core.specs.declared.decl.PropDecl.{PropDecl}
use Rattle.loop_core.specs.declared.decl.PropKind.{PropKind}
use Rattle.loop_core.specs.declared.decl.PropKind.TheVariants.{Range, Rising, Strict, Injective, Sorted, Below, Upto, Diagonal, Before}
use Rattle.loop_core.specs.declared.nest.Term.{Term, roll-Term, map-Term}
use Rattle.loop_core.specs.declared.nest.Atom.{Atom, out-Atom, roll-Atom, map-Atom}
use Rattle.loop_core.specs.declared.nest.Atom as ATOM
use Rattle.loop_core.specs.declared.nest.Atom.TheVariants.{Zero, N, Nnz, At, rolls-At, outs-At, outs-Zero, outs-N, outs-Nnz}
use Rattle.loop_core.specs.declared.nest.Atom.TheOpen.{Atom-F, Term-F}
use Rattle.loop_core.specs.declared.nest.Atom.TheFolds.{ind-Atom}
use Rattle.uf_constraints.specs.declared.system.Diff.{Diff}
use Rattle.uf_constraints.specs.Constants.{IndexWithin, IndexesWithin, DiffsWithin, atom_within, term_within}
use Rattle.uf_constraints.specs.Over.{IsClosed}
use Rattle.uf_constraints.specs.Universe.{plain, next, written_atoms, diagonal_atoms, asked_by, asked_beside, atoms_due}
use Rattle.uf_constraints.proofs.Indexes.{all_listed_within, wider, written_within}
use Rattle.dep_extract.proofs.Members.{and_true}

-- The constants just inside the atoms that are due.

module _ (k : ℕ) where
  abbrev Is : Atom → Type 0
  Is x = IndexWithin (k + 1) (out-Atom x)

  entry_is : (f : ArrayId) (t : Term) → unsigned_abs t.plus ≤ k + 1 → Is (At f t)
  entry_is f t h = subst (IndexWithin (k + 1)) (sym (outs-At f t)) h

  asked_within : (x : Atom) (l : Atom-F Atom Term) (kind : PropKind) → IndexWithin k l → All Is (diagonal_atoms x l kind)
  asked_within x (Atom-F.At array t) (Diagonal d f p) h = by (array.0 == d.0)
    where
      next_is : (n : ℕ) → unsigned_abs t.plus ≤ n → unsigned_abs (t.plus +ℤ pos 1) ≤ n + 1
      next_is n le = omega (arith, ints, le)

      by : (b : Bool) → All Is (cond b (At f (plain x) ∷ At p t ∷ At p (next t) ∷ []) [])
      by false = All-nil Is
      by true =
          All-cons Is (At f (plain x)) (At p t ∷ At p (next t) ∷ []) (entry_is f (plain x) (omega arith))
          (All-cons Is (At p t) (At p (next t) ∷ []) (entry_is p t (omega (arith, h)))
          (All-cons Is (At p (next t)) [] (entry_is p (next t) (next_is k h)) (All-nil Is)))
  asked_within x (Atom-F.At array t) (Range f lo hi) h = All-nil Is
  asked_within x (Atom-F.At array t) (Rising p) h = All-nil Is
  asked_within x (Atom-F.At array t) (Strict p) h = All-nil Is
  asked_within x (Atom-F.At array t) (Injective f) h = All-nil Is
  asked_within x (Atom-F.At array t) (Sorted f p) h = All-nil Is
  asked_within x (Atom-F.At array t) (Below f p) h = All-nil Is
  asked_within x (Atom-F.At array t) (Upto f p) h = All-nil Is
  asked_within x (Atom-F.At array t) (Before f g) h = All-nil Is
  asked_within x Atom-F.Zero kind h = All-nil Is
  asked_within x Atom-F.N kind h = All-nil Is
  asked_within x Atom-F.Nnz kind h = All-nil Is
  asked_within x (Atom-F.Var v) kind h = All-nil Is

  asked_by_within : (props : List PropDecl) (x : Atom) → IndexWithin k (out-Atom x) → All Is (flat_map (asked_by x) props)
  asked_by_within [] x h = All-nil Is
  asked_by_within (p ∷ props) x h =
      All-append Is (asked_by x p) (flat_map (asked_by x) props) (asked_within x (out-Atom x) p.kind h) (asked_by_within props x h)

  all_asked_within : (props : List PropDecl) (atoms : List Atom) → IndexesWithin k atoms → All Is (flat_map (asked_beside props) atoms)
  all_asked_within props [] h = All-nil Is
  all_asked_within props (x ∷ atoms) h =
      let P : Atom → Type 0 = λ b. IndexWithin k (out-Atom b) in
      All-append Is (asked_beside props x) (flat_map (asked_beside props) atoms) (asked_by_within props x (All-head P x atoms h)) (all_asked_within props atoms (All-tail P x atoms h))

  sizes_within : IndexesWithin k (Zero ∷ N ∷ Nnz ∷ [])
  sizes_within =
      let P : Atom → Type 0 = λ b. IndexWithin k (out-Atom b) in
      All-cons P Zero (N ∷ Nnz ∷ []) (subst (IndexWithin k) (sym outs-Zero) tt)
      (All-cons P N (Nnz ∷ []) (subst (IndexWithin k) (sym outs-N) tt)
      (All-cons P Nnz [] (subst (IndexWithin k) (sym outs-Nnz) tt) (All-nil P)))

  pub due_within : (base : List Diff) (props : List PropDecl) → DiffsWithin k base → IndexesWithin (k + 1) (atoms_due base [] props)
  due_within base props small =
      let written = written_atoms base [] in
      let before : IndexesWithin k written = written_within k (Zero ∷ N ∷ Nnz ∷ []) base [] sizes_within small (All-nil (λ (t : Term). IsTrue (term_within k t))) in
      all_listed_within (k + 1) written (flat_map (asked_beside props) written) (wider k written before) (all_asked_within props written before)

-- All constants in them.

le_to : (n k : ℕ) → n ≤ k → nat_le n k ≡ true
le_to n k e = grind (arith, nat_tests)

-- a term of a small atom and a small constant
pub term_small : (t : Term) → IsTrue (atom_within (2 ^ 31) t.atom) → unsigned_abs t.plus ≤ 2 ^ 31 → IsTrue (term_within (2 ^ 31) t)
term_small t atom plus =
    let is : term_within (2 ^ 31) t ≡ (atom_within (2 ^ 31) t.atom && nat_le (unsigned_abs t.plus) (2 ^ 31)) = search (rules, ATOM.TheFolds.the_lemmas) in
    is ∙ and_true (atom_within (2 ^ 31) t.atom) (nat_le (unsigned_abs t.plus) (2 ^ 31)) atom (le_to (unsigned_abs t.plus) (2 ^ 31) plus)

module _ (atoms : List Atom) (closed : IsClosed atoms) (within : IndexesWithin (2 ^ 21 + 1) atoms) where
  pub index_small : (f : ArrayId) (t : Term) → Contains atoms (At f t) → unsigned_abs t.plus ≤ 2 ^ 31
  index_small f t c =
      let h : unsigned_abs t.plus ≤ 2 ^ 21 + 1 = subst (IndexWithin (2 ^ 21 + 1)) (outs-At f t) (All-contains (λ (b : Atom). IndexWithin (2 ^ 21 + 1) (out-Atom b)) atoms (At f t) within c) in
      omega (arith, h)

  abbrev AtomSmall : Atom → Type 0
  AtomSmall x = Contains atoms x → IsTrue (atom_within (2 ^ 31) x)

  abbrev TermSmall : Term → Type 0
  TermSmall t = Contains atoms t.atom → unsigned_abs t.plus ≤ 2 ^ 31 → IsTrue (term_within (2 ^ 31) t)

  at_small : (f : ArrayId) (t : Term) → TermSmall t → AtomSmall (roll-Atom (Atom-F.At f t))
  at_small f t inner c =
      let there = subst (Contains atoms) (rolls-At f t) c in
      let is : atom_within (2 ^ 31) (roll-Atom (Atom-F.At f t)) ≡ term_within (2 ^ 31) t = search (rules, ATOM.TheFolds.the_lemmas) in
      is ∙ inner (closed.inner f t there) (index_small f t there)

  term_case : (t : Term-F Atom Term) → AtomSmall t.atom → TermSmall (roll-Term t)
  term_case t inner c plus =
      let same : (roll-Term t).atom ≡ t.atom = search (rules, ATOM.TheFolds.the_lemmas) in
      term_small (roll-Term t) (subst (λ x. IsTrue (atom_within (2 ^ 31) x)) (sym same) (inner (subst (Contains atoms) same c))) plus

  atom_from : {A B : Type 0} (pa : A → Atom) (pb : B → Term) → ((b : B) → TermSmall (pb b)) → (y : Atom-F A B) (x : Atom-F Atom Term) → map-Atom A B Atom Term pa pb y ≡ x → AtomSmall (roll-Atom x)
  atom_from pa pb fine (Atom-F.At f t) x is = subst (λ z. AtomSmall (roll-Atom z)) is (at_small f (pb t) (fine t))
  atom_from pa pb fine Atom-F.Zero x is = subst (λ z. AtomSmall (roll-Atom z)) is (λ c. search (rules, ATOM.TheFolds.the_lemmas))
  atom_from pa pb fine Atom-F.N x is = subst (λ z. AtomSmall (roll-Atom z)) is (λ c. search (rules, ATOM.TheFolds.the_lemmas))
  atom_from pa pb fine Atom-F.Nnz x is = subst (λ z. AtomSmall (roll-Atom z)) is (λ c. search (rules, ATOM.TheFolds.the_lemmas))
  atom_from pa pb fine (Atom-F.Var v) x is = subst (λ z. AtomSmall (roll-Atom z)) is (λ c. search (rules, ATOM.TheFolds.the_lemmas))

  term_from : {A B : Type 0} (pa : A → Atom) (pb : B → Term) → ((x : A) → AtomSmall (pa x)) → (y : Term-F A B) (x : Term-F Atom Term) → map-Term A B Atom Term pa pb y ≡ x → TermSmall (roll-Term x)
  term_from {A} {B} pa pb fine y x is = subst (λ z. TermSmall (roll-Term z)) is (term_case (map-Term A B Atom Term pa pb y) (fine y.atom))

  pub atom_small : (x : Atom) → AtomSmall x
  atom_small =
      ind-Atom AtomSmall TermSmall (λ x y is. atom_from (λ z. z.0) (λ z. z.0) (λ z. z.1) y x is) (λ x y is. term_from (λ z. z.0) (λ z. z.0) (λ z. z.1) y x is)
