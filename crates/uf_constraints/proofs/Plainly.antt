-- The plain way: each atom at its first place gives the atoms that are due.
use Rattle.std.proofs.Common.{ℕ, ◌+◌, ◌<◌, ◌≤◌, ◌≡◌, Bool, true, false, cond, List, [], ◌∷◌, ◌++◌, length, get_or, take, refl, sym, ap, ◌∙◌, subst, rules, arith, unsigned_abs}
use Rattle.std.specs.Prelude.{◌||◌, ◌==◌}
use Rattle.std.specs.List.{flat_map}
use Rattle.std.proofs.lemmas.Int.{ints}
use Rattle.std.proofs.lemmas.List.{take_more}
use Rattle.std.proofs.lemmas.List.Sums.{fold-append}
use Rattle.std.proofs.lemmas.List.Folds.{list_any-append}
use Rattle.std.proofs.lemmas.List.Elements.{All-nil, All-cons, All-head, All-tail, All-append}
use Rattle.wave_base.specs.declared.types.ArrayId.{ArrayId}
use Rattle.loop_core.specs.declared.decl.PropDecl.{PropDecl}
use Rattle.loop_core.specs.declared.decl.PropKind.{PropKind}
use Rattle.loop_core.specs.declared.decl.PropKind.TheVariants.{Diagonal}
use Rattle.loop_core.specs.declared.nest.Term.{Term}
use Rattle.loop_core.specs.declared.nest.Atom.{Atom, out-Atom}
use Rattle.loop_core.specs.declared.nest.Atom as ATOM
use Rattle.loop_core.specs.declared.nest.Atom.TheVariants.{Zero, N, Nnz, At, outs-At, outs-Zero, outs-N, outs-Nnz}
use Rattle.loop_core.specs.declared.nest.Atom.TheOpen.{Atom-F}
use Rattle.uf_constraints.specs.declared.system.Diff.{Diff}
use Rattle.uf_constraints.specs.Constants.{IndexWithin, IndexesWithin, DiffsWithin, TermsWithin}
use Rattle.uf_constraints.specs.Same.{same_atom, is_listed}
use Rattle.uf_constraints.specs.Universe.{plain, next, listed, all_listed, diff_parts, term_parts, written_atoms, diagonal_atoms, asked_by, asked_beside, atoms_due}
use Rattle.uf_constraints.proofs.Equal.{atom_is}
use Rattle.uf_constraints.proofs.Indexes.{all_listed_within, written_within, wider}

-- What is listed.

or_false : (p : Bool) → (p || false) ≡ p
or_false true = refl
or_false false = refl

or_assoc : (p q r : Bool) → ((p || q) || r) ≡ (p || (q || r))
or_assoc true q r = refl
or_assoc false q r = refl

already : (p q : Bool) → (q ≡ true → p ≡ true) → p ≡ (p || q)
already true q h = refl
already false false h = refl
already false true h = h refl

listed_same : (a : Atom) (atoms : List Atom) (x : Atom) → is_listed (listed atoms x) a ≡ (is_listed atoms a || same_atom a x)
listed_same a atoms x = by_cases (is_listed atoms x) refl
  where
    by_cases : (b : Bool) → is_listed atoms x ≡ b → is_listed (cond b atoms (atoms ++ x ∷ [])) a ≡ (is_listed atoms a || same_atom a x)
    by_cases true e = already (is_listed atoms a) (same_atom a x) (λ h. subst (λ b. is_listed atoms b ≡ true) (sym (atom_is a x h)) e)
    by_cases false e = list_any-append (same_atom a) atoms (x ∷ []) ∙ ap (λ b. is_listed atoms a || b) (or_false (same_atom a x))

all_same : (a : Atom) (atoms more : List Atom) → is_listed (all_listed atoms more) a ≡ (is_listed atoms a || is_listed more a)
all_same a atoms [] = sym (or_false (is_listed atoms a))
all_same a atoms (x ∷ more) =
    all_same a (listed atoms x) more ∙ ap (λ b. b || is_listed more a) (listed_same a atoms x) ∙ or_assoc (is_listed atoms a) (same_atom a x) (is_listed more a)

-- the atoms at their first places are those of the list
pub kept_same : (atoms : List Atom) (a : Atom) → is_listed (all_listed [] atoms) a ≡ is_listed atoms a
kept_same atoms a = all_same a [] atoms

-- one atom more
pub kept_more : (atoms : List Atom) (x : Atom) → listed (all_listed [] atoms) x ≡ cond (is_listed atoms x) (all_listed [] atoms) (all_listed [] atoms ++ x ∷ [])
kept_more atoms x = ap (λ b. cond b (all_listed [] atoms) (all_listed [] atoms ++ x ∷ [])) (kept_same atoms x)

-- one place more
pub first_step : (atoms : List Atom) (k : ℕ) (kept new : List Atom) (x : Atom) → k < length atoms → x ≡ get_or atoms k x → kept ≡ all_listed [] (take k atoms) → new ≡ cond (is_listed (take k atoms) x) kept (kept ++ x ∷ []) → new ≡ all_listed [] (take (k + 1) atoms)
first_step atoms k kept new x lt here before after =
    let seen = take k atoms in
    after ∙ ap (λ l. cond (is_listed seen x) l (l ++ x ∷ [])) before ∙ sym (kept_more seen x) ∙ sym (fold-append listed [] seen (x ∷ []))
    ∙ ap (all_listed []) (ap (λ y. seen ++ y ∷ []) here ∙ sym (take_more atoms k x lt))

-- Twice.

kept_one : (atoms : List Atom) (x : Atom) → all_listed [] (listed atoms x) ≡ listed (all_listed [] atoms) x
kept_one atoms x = by_cases (is_listed atoms x) refl
  where
    by_cases : (b : Bool) → is_listed atoms x ≡ b → all_listed [] (cond b atoms (atoms ++ x ∷ [])) ≡ listed (all_listed [] atoms) x
    by_cases true e = sym (kept_more atoms x ∙ ap (λ b. cond b (all_listed [] atoms) (all_listed [] atoms ++ x ∷ [])) e)
    by_cases false e = fold-append listed [] atoms (x ∷ [])

kept_all : (atoms more : List Atom) → all_listed [] (all_listed atoms more) ≡ all_listed (all_listed [] atoms) more
kept_all atoms [] = refl
kept_all atoms (x ∷ more) = kept_all (listed atoms x) more ∙ ap (λ l. all_listed l more) (kept_one atoms x)

-- 0, n and nnz differ.

abbrev sizes : List Atom
sizes = Zero ∷ N ∷ Nnz ∷ []

sizes_kept : all_listed [] sizes ≡ sizes
sizes_kept = search (rules, ATOM.TheFolds.the_lemmas)

written_is : (base : List Diff) (extra : List Term) → all_listed [] (sizes ++ flat_map diff_parts base ++ flat_map term_parts extra) ≡ written_atoms base extra
written_is base extra =
    fold-append listed [] (sizes ++ flat_map diff_parts base) (flat_map term_parts extra)
    ∙ ap (λ l. all_listed l (flat_map term_parts extra)) (fold-append listed [] sizes (flat_map diff_parts base))
    ∙ ap (λ l. all_listed (all_listed l (flat_map diff_parts base)) (flat_map term_parts extra)) sizes_kept

kept_due : (all asked : List Atom) → all_listed [] (all_listed [] all ++ asked) ≡ all_listed (all_listed [] all) asked
kept_due all asked =
    fold-append listed [] (all_listed [] all) asked ∙ ap (λ l. all_listed l asked) (kept_all [] all)

pub due_is : (base : List Diff) (extra : List Term) (props : List PropDecl) (all kept asked : List Atom) → all ≡ sizes ++ flat_map diff_parts base ++ flat_map term_parts extra → kept ≡ all_listed [] all → asked ≡ flat_map (asked_beside props) kept → all_listed [] (kept ++ asked) ≡ atoms_due base extra props
due_is base extra props all kept asked ea ek es =
    let written : kept ≡ written_atoms base extra = ek ∙ ap (all_listed []) ea ∙ written_is base extra in
    ap (λ l. all_listed [] (l ++ asked)) ek ∙ kept_due all asked ∙ ap (λ l. all_listed l asked) (sym ek)
    ∙ ap (all_listed kept) es
    ∙ ap (λ l. all_listed l (flat_map (asked_beside props) l)) written

-- The constants just inside the atoms.

entry_within : (k : ℕ) (f : ArrayId) (t : Term) → unsigned_abs t.plus ≤ k → IndexWithin k (out-Atom (At f t))
entry_within k f t h = subst (IndexWithin k) (sym (outs-At f t)) h

after_within : (k : ℕ) (t : Term) → unsigned_abs t.plus ≤ k → unsigned_abs (next t).plus ≤ k + 1
after_within k t h = omega (arith, ints, h)

asked_cases : (k : ℕ) (a : Atom) (x : Atom-F Atom Term) → IndexWithin k x → (kind : PropKind) → IndexesWithin (k + 1) (diagonal_atoms a x kind)
asked_cases k a (Atom-F.At d t) h (Diagonal d2 f p) = by_cases (d.0 == d2.0)
  where
    P : Atom → Type 0
    P b = IndexWithin (k + 1) (out-Atom b)

    by_cases : (b : Bool) → IndexesWithin (k + 1) (cond b (At f (plain a) ∷ At p t ∷ At p (next t) ∷ []) [])
    by_cases false = All-nil (λ b. IndexWithin (k + 1) (out-Atom b))
    by_cases true =
        All-cons (λ b. IndexWithin (k + 1) (out-Atom b)) (At f (plain a)) (At p t ∷ At p (next t) ∷ []) (entry_within (k + 1) f (plain a) (omega (arith, ints)))
        (All-cons (λ b. IndexWithin (k + 1) (out-Atom b)) (At p t) (At p (next t) ∷ []) (entry_within (k + 1) p t (omega arith))
        (All-cons (λ b. IndexWithin (k + 1) (out-Atom b)) (At p (next t)) [] (entry_within (k + 1) p (next t) (after_within k t h)) (All-nil (λ b. IndexWithin (k + 1) (out-Atom b)))))
asked_cases k a x h kind = All-nil (λ b. IndexWithin (k + 1) (out-Atom b))

beside_within : (k : ℕ) (a : Atom) → IndexWithin k (out-Atom a) → (props : List PropDecl) → IndexesWithin (k + 1) (asked_beside props a)
beside_within k a h [] = All-nil (λ b. IndexWithin (k + 1) (out-Atom b))
beside_within k a h (p ∷ props) =
    All-append (λ b. IndexWithin (k + 1) (out-Atom b)) (asked_by a p) (asked_beside props a) (asked_cases k a (out-Atom a) h p.kind) (beside_within k a h props)

asked_within : (k : ℕ) (props : List PropDecl) (atoms : List Atom) → IndexesWithin k atoms → IndexesWithin (k + 1) (flat_map (asked_beside props) atoms)
asked_within k props [] h = All-nil (λ b. IndexWithin (k + 1) (out-Atom b))
asked_within k props (a ∷ atoms) h =
    let P : Atom → Type 0 = λ b. IndexWithin k (out-Atom b) in
    All-append (λ b. IndexWithin (k + 1) (out-Atom b)) (asked_beside props a) (flat_map (asked_beside props) atoms) (beside_within k a (All-head P a atoms h) props) (asked_within k props atoms (All-tail P a atoms h))

sizes_within : (k : ℕ) → IndexesWithin k sizes
sizes_within k =
    let P : Atom → Type 0 = λ b. IndexWithin k (out-Atom b) in
    All-cons P Zero (N ∷ Nnz ∷ []) (subst (IndexWithin k) (sym outs-Zero) tt)
    (All-cons P N (Nnz ∷ []) (subst (IndexWithin k) (sym outs-N) tt)
    (All-cons P Nnz [] (subst (IndexWithin k) (sym outs-Nnz) tt) (All-nil P)))

pub atoms_within : (k : ℕ) (base : List Diff) (extra : List Term) → DiffsWithin k base → TermsWithin k extra → IndexesWithin k (written_atoms base extra)
atoms_within k base extra small smaller = written_within k sizes base extra (sizes_within k) small smaller

-- what is kept of all that is written
pub kept_within : (k : ℕ) (base : List Diff) (extra : List Term) (all kept : List Atom) → DiffsWithin k base → TermsWithin k extra → all ≡ sizes ++ flat_map diff_parts base ++ flat_map term_parts extra → kept ≡ all_listed [] all → IndexesWithin k kept
kept_within k base extra all kept small smaller ea ek =
    subst (IndexesWithin k) (sym (ek ∙ ap (all_listed []) ea ∙ written_is base extra)) (atoms_within k base extra small smaller)

pub due_within : (k : ℕ) (base : List Diff) (extra : List Term) (props : List PropDecl) → DiffsWithin k base → TermsWithin k extra → IndexesWithin (k + 1) (atoms_due base extra props)
due_within k base extra props small smaller =
    let written = written_atoms base extra in
    let old = atoms_within k base extra small smaller in
    all_listed_within (k + 1) written (flat_map (asked_beside props) written) (wider k written old) (asked_within k props written old)
