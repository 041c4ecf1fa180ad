-- What is written in the brackets of terms are entries alone, and those of an expression its reads.
use Rattle.std.proofs.Common.{◌≡◌, [], ◌∷◌, refl, sym, subst, rules}
use Rattle.std.specs.List.{All}
use Rattle.std.proofs.lemmas.List.Elements.{All-nil, All-cons}
use Rattle.wave_base.specs.declared.types.ArrayId.{ArrayId}
use Rattle.loop_core.specs.declared.nest.Term.{Term, roll-Term, map-Term}
use Rattle.loop_core.specs.declared.nest.Atom.{Atom, roll-Atom, map-Atom}
use Rattle.loop_core.specs.declared.nest.Atom as ATOM
use Rattle.loop_core.specs.declared.nest.Atom.TheOpen.{Atom-F, Term-F}
use Rattle.loop_core.specs.declared.nest.Atom.TheFolds.{ind-Term}
use Rattle.uf_constraints.specs.declared.reach.Usage.TheVariants.{Entry}
use Rattle.uf_constraints.specs.declared.reach.Access.{Access}
use Rattle.uf_constraints.specs.Brackets.{access, atom_accesses, term_accesses}

abbrev IsEntry : Access → Type 0
IsEntry x = x.usage ≡ Entry

abbrev AtomEntries : Atom → Type 0
AtomEntries x = All IsEntry (atom_accesses x)

abbrev TermEntries : Term → Type 0
TermEntries t = All IsEntry (term_accesses t)

at_entries : (f : ArrayId) (t : Term) → TermEntries t → AtomEntries (roll-Atom (Atom-F.At f t))
at_entries f t all =
    let same : atom_accesses (roll-Atom (Atom-F.At f t)) ≡ access Entry f t ∷ term_accesses t = search (rules, ATOM.TheFolds.the_lemmas) in
    subst (All IsEntry) (sym same) (All-cons IsEntry (access Entry f t) (term_accesses t) refl all)

term_entries : (t : Term-F Atom Term) → AtomEntries t.atom → TermEntries (roll-Term t)
term_entries t all =
    let same : term_accesses (roll-Term t) ≡ atom_accesses t.atom = search (rules, ATOM.TheFolds.the_lemmas) in
    subst (All IsEntry) (sym same) all

no_entries : (x : Atom-F Atom Term) → atom_accesses (roll-Atom x) ≡ [] → AtomEntries (roll-Atom x)
no_entries x none = subst (All IsEntry) (sym none) (All-nil IsEntry)

atom_from : {A B : Type 0} (pa : A → Atom) (pb : B → Term) → ((b : B) → TermEntries (pb b)) → (y : Atom-F A B) (x : Atom-F Atom Term) → map-Atom A B Atom Term pa pb y ≡ x → AtomEntries (roll-Atom x)
atom_from pa pb fine (Atom-F.At f t) x is = subst (λ z. AtomEntries (roll-Atom z)) is (at_entries f (pb t) (fine t))
atom_from pa pb fine Atom-F.Zero x is = subst (λ z. AtomEntries (roll-Atom z)) is (no_entries Atom-F.Zero (search (rules, ATOM.TheFolds.the_lemmas)))
atom_from pa pb fine Atom-F.N x is = subst (λ z. AtomEntries (roll-Atom z)) is (no_entries Atom-F.N (search (rules, ATOM.TheFolds.the_lemmas)))
atom_from pa pb fine Atom-F.Nnz x is = subst (λ z. AtomEntries (roll-Atom z)) is (no_entries Atom-F.Nnz (search (rules, ATOM.TheFolds.the_lemmas)))
atom_from pa pb fine (Atom-F.Var v) x is = subst (λ z. AtomEntries (roll-Atom z)) is (no_entries (Atom-F.Var v) (search (rules, ATOM.TheFolds.the_lemmas)))

term_from : {A B : Type 0} (pa : A → Atom) (pb : B → Term) → ((x : A) → AtomEntries (pa x)) → (y : Term-F A B) (x : Term-F Atom Term) → map-Term A B Atom Term pa pb y ≡ x → TermEntries (roll-Term x)
term_from {A} {B} pa pb fine y x is = subst (λ z. TermEntries (roll-Term z)) is (term_entries (map-Term A B Atom Term pa pb y) (fine y.atom))

pub only_entries : (t : Term) → TermEntries t
only_entries =
    ind-Term AtomEntries TermEntries (λ x y is. atom_from (λ z. z.0) (λ z. z.0) (λ z. z.1) y x is) (λ x y is. term_from (λ z. z.0) (λ z. z.0) (λ z. z.1) y x is)
