-- The constants in the parts of an atom, by induction over atoms and terms.
use Rattle.std.proofs.Common.{ℕ, ◌≤◌, ◌≡◌, IsTrue, Bool, ◌&&◌, nat_le, List, [], ◌∷◌, ◌++◌, true, false, refl, subst, sym, rules, tests, unsigned_abs}
use Rattle.std.specs.List.{flat_map}
use Rattle.std.proofs.lemmas.List.Elements.{All-head, All-tail, All-append, All-push, All-nil}
use Rattle.wave_base.specs.declared.types.ArrayId.{ArrayId}
use Rattle.loop_core.specs.declared.nest.Term.{Term, roll-Term, map-Term}
use Rattle.loop_core.specs.declared.nest.Atom.{Atom, out-Atom, roll-Atom, map-Atom, out-roll-Atom}
use Rattle.loop_core.specs.declared.nest.Atom as ATOM
use Rattle.loop_core.specs.declared.nest.Atom.TheOpen.{Atom-F, Term-F}
use Rattle.loop_core.specs.declared.nest.Atom.TheFolds.{ind-Atom, ind-Term}
use Rattle.uf_constraints.specs.declared.system.Diff.{Diff}
use Rattle.uf_constraints.specs.Constants.{atom_within, term_within, IndexWithin, IndexesWithin, DiffsWithin, TermsWithin}
use Rattle.uf_constraints.specs.Universe.{atom_parts, term_parts, diff_parts}

abbrev AtomIsFine : ℕ → Atom → Type 0
AtomIsFine k a = IsTrue (atom_within k a) → IndexesWithin k (atom_parts a)

abbrev TermIsFine : ℕ → Term → Type 0
TermIsFine k t = IsTrue (term_within k t) → IndexesWithin k (term_parts t) × (unsigned_abs t.plus ≤ k)

at_step : (k : ℕ) (f : ArrayId) (t : Term) → TermIsFine k t → AtomIsFine k (roll-Atom (Atom-F.At f t))
at_step k f t fine h =
    let a : Atom = roll-Atom (Atom-F.At f t) in
    let same : atom_within k a ≡ term_within k t = search (rules, ATOM.TheFolds.the_lemmas) in
    let parts : atom_parts a ≡ term_parts t ++ a ∷ [] = search (rules, ATOM.TheFolds.the_lemmas) in
    let inner = fine (subst IsTrue same h) in
    let here : IndexWithin k (out-Atom a) = subst (IndexWithin k) (sym (out-roll-Atom (Atom-F.At f t))) inner.1 in
    subst (IndexesWithin k) (sym parts) (All-push (λ b. IndexWithin k (out-Atom b)) (term_parts t) a inner.0 here)

both : (a b : Bool) → IsTrue (a && b) → IsTrue a × IsTrue b
both true b h = (refl, h)
both false b h = absurd (cc)

term_step : (k : ℕ) (t : Term-F Atom Term) → AtomIsFine k t.atom → TermIsFine k (roll-Term t)
term_step k t fine h =
    let same : term_within k (roll-Term t) ≡ (atom_within k t.atom && nat_le (unsigned_abs t.plus) k) = search (rules, ATOM.TheFolds.the_lemmas) in
    let parts : term_parts (roll-Term t) ≡ atom_parts t.atom = search (rules, ATOM.TheFolds.the_lemmas) in
    let two = both (atom_within k t.atom) (nat_le (unsigned_abs t.plus) k) (subst IsTrue same h) in
    let small : unsigned_abs t.plus ≤ k = search (rules, tests) in (
      subst (IndexesWithin k) (sym parts) (fine two.0),
      small,
    )

atom_from : {A B : Type 0} (k : ℕ) (pa : A → Atom) (pb : B → Term) → ((b : B) → TermIsFine k (pb b)) → (y : Atom-F A B) (x : Atom-F Atom Term) → map-Atom A B Atom Term pa pb y ≡ x → AtomIsFine k (roll-Atom x)
atom_from k pa pb fine (Atom-F.At f e) x is = subst (λ z. AtomIsFine k (roll-Atom z)) is (at_step k f (pb e) (fine e))
atom_from k pa pb fine Atom-F.Zero x is = subst (λ z. AtomIsFine k (roll-Atom z)) is (λ h. search (rules, ATOM.TheFolds.the_lemmas))
atom_from k pa pb fine Atom-F.N x is = subst (λ z. AtomIsFine k (roll-Atom z)) is (λ h. search (rules, ATOM.TheFolds.the_lemmas))
atom_from k pa pb fine Atom-F.Nnz x is = subst (λ z. AtomIsFine k (roll-Atom z)) is (λ h. search (rules, ATOM.TheFolds.the_lemmas))
atom_from k pa pb fine (Atom-F.Var v) x is = subst (λ z. AtomIsFine k (roll-Atom z)) is (λ h. search (rules, ATOM.TheFolds.the_lemmas))

term_from : {A B : Type 0} (k : ℕ) (pa : A → Atom) (pb : B → Term) → ((a : A) → AtomIsFine k (pa a)) → (y : Term-F A B) (x : Term-F Atom Term) → map-Term A B Atom Term pa pb y ≡ x → TermIsFine k (roll-Term x)
term_from {A} {B} k pa pb fine y x is =
    subst (λ z. TermIsFine k (roll-Term z)) is (term_step k (map-Term A B Atom Term pa pb y) (fine y.atom))

parts_within : (k : ℕ) (a : Atom) → AtomIsFine k a
parts_within k =
    ind-Atom (AtomIsFine k) (TermIsFine k) (λ x y is. atom_from k (λ e. e.0) (λ e. e.0) (λ e. e.1) y x is) (λ x y is. term_from k (λ e. e.0) (λ e. e.0) (λ e. e.1) y x is)

term_parts_within : (k : ℕ) (t : Term) → TermIsFine k t
term_parts_within k =
    ind-Term (AtomIsFine k) (TermIsFine k) (λ x y is. atom_from k (λ e. e.0) (λ e. e.0) (λ e. e.1) y x is) (λ x y is. term_from k (λ e. e.0) (λ e. e.0) (λ e. e.1) y x is)

pub base_within : (k : ℕ) (base : List Diff) → DiffsWithin k base → IndexesWithin k (flat_map diff_parts base)
base_within k [] small = All-nil (λ b. IndexWithin k (out-Atom b))
base_within k (d ∷ base) small =
    let P : Atom → Type 0 = λ b. IndexWithin k (out-Atom b) in
    let Q : Diff → Type 0 = λ e. IsTrue (atom_within k e.a) × IsTrue (atom_within k e.b) in
    let here = All-head Q d base small in
    All-append P (diff_parts d) (flat_map diff_parts base) (All-append P (atom_parts d.a) (atom_parts d.b) (parts_within k d.a here.0) (parts_within k d.b here.1)) (base_within k base (All-tail Q d base small))

pub terms_within : (k : ℕ) (terms : List Term) → TermsWithin k terms → IndexesWithin k (flat_map term_parts terms)
terms_within k [] small = All-nil (λ b. IndexWithin k (out-Atom b))
terms_within k (t ∷ terms) small =
    let P : Atom → Type 0 = λ b. IndexWithin k (out-Atom b) in
    let Q : Term → Type 0 = λ u. IsTrue (term_within k u) in
    All-append P (term_parts t) (flat_map term_parts terms) (term_parts_within k t (All-head Q t terms small)).0 (terms_within k terms (All-tail Q t terms small))
