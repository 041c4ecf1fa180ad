-- The atoms that are due: without repeats, and with whatever they are made of.
use Rattle.std.proofs.Common.{ℕ, ◌<◌, ◌≡◌, inl, inr, Bool, true, false, cond, List, [], ◌∷◌, ◌++◌, length, slice_index_or, length-append, refl, sym, ap, ◌∙◌, subst, rules, arith, zero, suc}
use Rattle.std.specs.Prelude.{◌-◌, ◌==◌}
use Rattle.std.specs.List.{All, Contains, flat_map}
use Rattle.std.proofs.lemmas.List.{get_or_append_left, get_or-append_right}
use Rattle.std.proofs.lemmas.Bool.{cases_order, false≢true}
use Rattle.std.proofs.lemmas.List.Elements.{All-nil, All-cons, All-head, All-tail, All-append, All-push, All-weaker, All-contains, All-contains_itself, Contains-append_left, Contains-append_right, Contains-push, Contains-get_or}
use Rattle.wave_base.specs.declared.types.ArrayId.{ArrayId}
use Rattle.loop_core.specs.declared.decl.PropDecl.{PropDecl}
use Rattle.loop_core.specs.declared.decl.PropKind.{PropKind}
use Rattle.loop_core.specs.declared.decl.PropKind.TheVariants.{Range, Rising, Strict, Injective, Sorted, Below, Upto, Diagonal, Before}
use Rattle.loop_core.specs.declared.nest.Term.{Term, roll-Term, map-Term}
use Rattle.loop_core.specs.declared.nest.Atom.{Atom, out-Atom, roll-Atom, map-Atom, out-roll-Atom, roll-out-Atom}
use Rattle.loop_core.specs.declared.nest.Atom as ATOM
use Rattle.loop_core.specs.declared.nest.Atom.TheVariants.{Zero, N, Nnz, At, rolls-At, outs-At, outs-Zero, outs-N, outs-Nnz}
use Rattle.loop_core.specs.declared.nest.Atom.TheOpen.{Atom-F, Term-F}
use Rattle.loop_core.specs.declared.nest.Atom.TheFolds.{ind-Atom, ind-Term}
use Rattle.uf_constraints.specs.declared.system.Diff.{Diff}
use Rattle.uf_constraints.specs.Once.{IsOnce}
use Rattle.uf_constraints.specs.Over.{IsOver, AllOver, IsClosed, HasAtoms}
use Rattle.uf_constraints.specs.Same.{is_listed}
use Rattle.uf_constraints.specs.Universe.{plain, next, atom_parts, term_parts, diff_parts, listed, all_listed, written_atoms, diagonal_atoms, asked_by, asked_beside, atoms_due}
use Rattle.uf_constraints.proofs.Equal.{is_among, listed_is}

-- No repeats.

apart : (b : Bool) → b ≡ false → b ≡ true → ⊥
apart b f t = false≢true (sym f ∙ t)

pushed_once : (atoms : List Atom) (a : Atom) → IsOnce atoms → (Contains atoms a → ⊥) → IsOnce (atoms ++ a ∷ [])
pushed_once atoms a once new i j lt within same =
    let long = length-append atoms (a ∷ []) in
    let left : i < length atoms = omega arith in
    let here : slice_index_or (atoms ++ a ∷ []) i Zero ≡ slice_index_or atoms i Zero = get_or_append_left atoms (a ∷ []) Zero i left in
    elim (cases_order j (length atoms)) [
      | inl e ↦
          let last : slice_index_or (atoms ++ a ∷ []) j Zero ≡ a = get_or-append_right atoms (a ∷ []) j j Zero (sym e) (omega arith) ∙ ap (λ k. slice_index_or (a ∷ []) k Zero) (let z : j - j ≡ 0 = omega arith in z) in
          new (subst (Contains atoms) (sym here ∙ same ∙ last) (Contains-get_or atoms i Zero left))
      | inr r ↦ elim r [
        | inl lj ↦ once i j lt lj (sym here ∙ same ∙ get_or_append_left atoms (a ∷ []) Zero j lj)
        | inr gj ↦ absurd (omega arith)
      ]
    ]

listed_once : (atoms : List Atom) (a : Atom) → IsOnce atoms → IsOnce (listed atoms a)
listed_once atoms a once = by_cases (is_listed atoms a) refl
  where
    by_cases : (b : Bool) → is_listed atoms a ≡ b → IsOnce (cond b atoms (atoms ++ a ∷ []))
    by_cases true e = once
    by_cases false e = pushed_once atoms a once (λ h. apart (is_listed atoms a) e (is_among atoms a h))

all_listed_once : (atoms more : List Atom) → IsOnce atoms → IsOnce (all_listed atoms more)
all_listed_once atoms [] once = once
all_listed_once atoms (a ∷ more) once = all_listed_once (listed atoms a) more (listed_once atoms a once)

differ : (a b : Atom) (x y : Atom-F Atom Term) → out-Atom a ≡ x → out-Atom b ≡ y → (x ≡ y → ⊥) → a ≡ b → ⊥
differ a b x y ea eb never e = never (sym ea ∙ ap out-Atom e ∙ eb)

sizes_once : IsOnce (Zero ∷ N ∷ Nnz ∷ [])
sizes_once i j lt within e = sizes_apart i j lt within e
  where
    sizes_apart : (i j : ℕ) → i < j → j < 3 → slice_index_or (Zero ∷ N ∷ Nnz ∷ []) i Zero ≡ slice_index_or (Zero ∷ N ∷ Nnz ∷ []) j Zero → ⊥
    sizes_apart zero zero lt w e = omega arith
    sizes_apart zero (suc zero) lt w e = differ Zero N Atom-F.Zero Atom-F.N outs-Zero outs-N (λ h. cc) e
    sizes_apart zero (suc (suc zero)) lt w e = differ Zero Nnz Atom-F.Zero Atom-F.Nnz outs-Zero outs-Nnz (λ h. cc) e
    sizes_apart zero (suc (suc (suc j))) lt w e = omega arith
    sizes_apart (suc zero) (suc (suc zero)) lt w e = differ N Nnz Atom-F.N Atom-F.Nnz outs-N outs-Nnz (λ h. cc) e
    sizes_apart (suc zero) zero lt w e = omega arith
    sizes_apart (suc zero) (suc zero) lt w e = omega arith
    sizes_apart (suc zero) (suc (suc (suc j))) lt w e = omega arith
    sizes_apart (suc (suc i)) j lt w e = omega arith

pub due_once : (base : List Diff) (extra : List Term) (props : List PropDecl) → IsOnce (atoms_due base extra props)
due_once base extra props =
    let written = written_atoms base extra in
    all_listed_once written (flat_map (asked_beside props) written)
    (all_listed_once (all_listed (Zero ∷ N ∷ Nnz ∷ []) (flat_map diff_parts base)) (flat_map term_parts extra)
    (all_listed_once (Zero ∷ N ∷ Nnz ∷ []) (flat_map diff_parts base) sizes_once))

-- What is listed stays, and whatever is added is there.

listed_keeps : (atoms : List Atom) (a b : Atom) → Contains atoms b → Contains (listed atoms a) b
listed_keeps atoms a b h =
    elim (is_listed atoms a) as (λ t. Contains (cond t atoms (atoms ++ a ∷ [])) b) [
      | true ↦ h
      | false ↦ Contains-append_left atoms (a ∷ []) b h
    ]

listed_has : (atoms : List Atom) (a : Atom) → Contains (listed atoms a) a
listed_has atoms a = by_cases (is_listed atoms a) refl
  where
    by_cases : (b : Bool) → is_listed atoms a ≡ b → Contains (cond b atoms (atoms ++ a ∷ [])) a
    by_cases true e = listed_is atoms a e
    by_cases false e = Contains-push atoms a

keeps : (atoms more : List Atom) (b : Atom) → Contains atoms b → Contains (all_listed atoms more) b
keeps atoms [] b h = h
keeps atoms (a ∷ more) b h = keeps (listed atoms a) more b (listed_keeps atoms a b h)

has : (atoms more : List Atom) (b : Atom) → Contains more b → Contains (all_listed atoms more) b
has atoms [] b (k, l, e) = absurd (omega arith)
has atoms (a ∷ more) b (zero, l, e) = subst (Contains (all_listed (listed atoms a) more)) e (keeps (listed atoms a) more a (listed_has atoms a))
has atoms (a ∷ more) b (suc k, l, e) = has (listed atoms a) more b (k, omega arith, e)

-- and nothing else
all_are : (P : Atom → Type 0) (atoms more : List Atom) → All P atoms → All P more → All P (all_listed atoms more)
all_are P atoms [] old new = old
all_are P atoms (a ∷ more) old new = all_are P (listed atoms a) more one (All-tail P a more new)
  where
    one : All P (listed atoms a)
    one =
        elim (is_listed atoms a) as (λ t. All P (cond t atoms (atoms ++ a ∷ []))) [
          | true ↦ old
          | false ↦ All-push P atoms a old (All-head P a more new)
        ]

-- The atoms inside an atom.

-- with an entry the atom inside it is in the list
abbrev pub HasInner : List Atom → Atom → Type 0
HasInner atoms a = (f : ArrayId) (t : Term) → a ≡ At f t → Contains atoms t.atom

inner_more : (atoms more : List Atom) → ((b : Atom) → Contains atoms b → Contains more b) → (a : Atom) → HasInner atoms a → HasInner more a
inner_more atoms more into a h f t e = into t.atom (h f t e)

one_part : (x : Atom-F Atom Term) → atom_parts (roll-Atom x) ≡ roll-Atom x ∷ [] → Contains (atom_parts (roll-Atom x)) (roll-Atom x)
one_part x e = subst (λ l. Contains l (roll-Atom x)) (sym e) (Contains-push [] (roll-Atom x))

last_open : (x : Atom-F Atom Term) → Contains (atom_parts (roll-Atom x)) (roll-Atom x)
last_open (Atom-F.At f t) =
    let a : Atom = roll-Atom (Atom-F.At f t) in
    let parts : atom_parts a ≡ term_parts t ++ a ∷ [] = search (rules, ATOM.TheFolds.the_lemmas) in
    subst (λ l. Contains l a) (sym parts) (Contains-push (term_parts t) a)
last_open Atom-F.Zero = one_part Atom-F.Zero (search (rules, ATOM.TheFolds.the_lemmas))
last_open Atom-F.N = one_part Atom-F.N (search (rules, ATOM.TheFolds.the_lemmas))
last_open Atom-F.Nnz = one_part Atom-F.Nnz (search (rules, ATOM.TheFolds.the_lemmas))
last_open (Atom-F.Var v) = one_part (Atom-F.Var v) (search (rules, ATOM.TheFolds.the_lemmas))

-- an atom is the last of its parts
last_part : (a : Atom) → Contains (atom_parts a) a
last_part a = subst (λ b. Contains (atom_parts b) b) (roll-out-Atom a) (last_open (out-Atom a))

abbrev AtomHasInner : Atom → Type 0
AtomHasInner a = All (HasInner (atom_parts a)) (atom_parts a)

abbrev TermHasInner : Term → Type 0
TermHasInner t = All (HasInner (term_parts t)) (term_parts t) × Contains (term_parts t) t.atom

-- an atom that is no entry
no_inner : (atoms : List Atom) (a : Atom) (x : Atom-F Atom Term) → out-Atom a ≡ x → ((f : ArrayId) (t : Term) → x ≡ Atom-F.At f t → ⊥) → HasInner atoms a
no_inner atoms a x e never f t same = absurd (never f t (sym e ∙ ap out-Atom same ∙ outs-At f t))

lone : (x : Atom-F Atom Term) → atom_parts (roll-Atom x) ≡ roll-Atom x ∷ [] → ((f : ArrayId) (t : Term) → x ≡ Atom-F.At f t → ⊥) → AtomHasInner (roll-Atom x)
lone x e never =
    let P : Atom → Type 0 = HasInner (atom_parts (roll-Atom x)) in
    subst (All P) (sym e) (All-cons P (roll-Atom x) [] (no_inner (atom_parts (roll-Atom x)) (roll-Atom x) x (out-roll-Atom x) never) (All-nil P))

inner_is : (f g : ArrayId) (t u : Term) → ◌≡◌ {A = Atom-F Atom Term} (Atom-F.At f t) (Atom-F.At g u) → t ≡ u
inner_is f g t u e = cc

at_step : (f : ArrayId) (t : Term) → TermHasInner t → AtomHasInner (roll-Atom (Atom-F.At f t))
at_step f t inner =
    let a : Atom = roll-Atom (Atom-F.At f t) in
    let parts : atom_parts a ≡ term_parts t ++ a ∷ [] = search (rules, ATOM.TheFolds.the_lemmas) in
    let into : (b : Atom) → Contains (term_parts t) b → Contains (atom_parts a) b = λ b h. subst (λ l. Contains l b) (sym parts) (Contains-append_left (term_parts t) (a ∷ []) b h) in
    let P : Atom → Type 0 = HasInner (atom_parts a) in
    let here : P a = λ g u e. into u.atom (subst (λ (w : Term). Contains (term_parts t) w.atom) (inner_is f g t u (sym (out-roll-Atom (Atom-F.At f t)) ∙ ap out-Atom e ∙ outs-At g u)) inner.1) in
    subst (All P) (sym parts) (All-push P (term_parts t) a (All-weaker (HasInner (term_parts t)) P (inner_more (term_parts t) (atom_parts a) into) (term_parts t) inner.0) here)

term_step : (t : Term-F Atom Term) → AtomHasInner t.atom → TermHasInner (roll-Term t)
term_step t inner =
    let here : (roll-Term t).atom ≡ t.atom = search (rules, ATOM.TheFolds.the_lemmas) in
    let parts : term_parts (roll-Term t) ≡ atom_parts t.atom = search (rules, ATOM.TheFolds.the_lemmas) in (
      subst (λ l. All (HasInner l) l) (sym parts) inner,
      subst (Contains (term_parts (roll-Term t))) (sym here) (subst (λ l. Contains l t.atom) (sym parts) (last_part t.atom)),
    )

atom_from : {A B : Type 0} (pa : A → Atom) (pb : B → Term) → ((b : B) → TermHasInner (pb b)) → (y : Atom-F A B) (x : Atom-F Atom Term) → map-Atom A B Atom Term pa pb y ≡ x → AtomHasInner (roll-Atom x)
atom_from pa pb inner (Atom-F.At f e) x is = subst (λ z. AtomHasInner (roll-Atom z)) is (at_step f (pb e) (inner e))
atom_from pa pb inner Atom-F.Zero x is = subst (λ z. AtomHasInner (roll-Atom z)) is (lone Atom-F.Zero (search (rules, ATOM.TheFolds.the_lemmas)) (λ f t h. cc))
atom_from pa pb inner Atom-F.N x is = subst (λ z. AtomHasInner (roll-Atom z)) is (lone Atom-F.N (search (rules, ATOM.TheFolds.the_lemmas)) (λ f t h. cc))
atom_from pa pb inner Atom-F.Nnz x is = subst (λ z. AtomHasInner (roll-Atom z)) is (lone Atom-F.Nnz (search (rules, ATOM.TheFolds.the_lemmas)) (λ f t h. cc))
atom_from pa pb inner (Atom-F.Var v) x is = subst (λ z. AtomHasInner (roll-Atom z)) is (lone (Atom-F.Var v) (search (rules, ATOM.TheFolds.the_lemmas)) (λ f t h. cc))

term_from : {A B : Type 0} (pa : A → Atom) (pb : B → Term) → ((a : A) → AtomHasInner (pa a)) → (y : Term-F A B) (x : Term-F Atom Term) → map-Term A B Atom Term pa pb y ≡ x → TermHasInner (roll-Term x)
term_from {A} {B} pa pb inner y x is =
    subst (λ z. TermHasInner (roll-Term z)) is (term_step (map-Term A B Atom Term pa pb y) (inner y.atom))

atoms_have : (a : Atom) → AtomHasInner a
atoms_have =
    ind-Atom AtomHasInner TermHasInner (λ x y is. atom_from (λ e. e.0) (λ e. e.0) (λ e. e.1) y x is) (λ x y is. term_from (λ e. e.0) (λ e. e.0) (λ e. e.1) y x is)

terms_have : (t : Term) → TermHasInner t
terms_have =
    ind-Term AtomHasInner TermHasInner (λ x y is. atom_from (λ e. e.0) (λ e. e.0) (λ e. e.1) y x is) (λ x y is. term_from (λ e. e.0) (λ e. e.0) (λ e. e.1) y x is)

-- The atoms of a system.

part_of : {X : Type 0} (f : X → List Atom) (xs : List X) (x : X) (a : Atom) → Contains xs x → Contains (f x) a → Contains (flat_map f xs) a
part_of f [] x a (k, l, e) h = absurd (omega arith)
part_of f (y ∷ xs) x a (zero, l, e) h = Contains-append_left (f y) (flat_map f xs) a (subst (λ z. Contains (f z) a) (sym e) h)
part_of f (y ∷ xs) x a (suc k, l, e) h = Contains-append_right (f y) (flat_map f xs) a (part_of f xs x a (k, omega arith, e) h)

parts_have : {X : Type 0} (f : X → List Atom) (xs : List X) → ((x : X) → All (HasInner (f x)) (f x)) → All (HasInner (flat_map f xs)) (flat_map f xs)
parts_have f [] each = All-nil (HasInner [])
parts_have f (x ∷ xs) each =
    let all = flat_map f (x ∷ xs) in
    All-append (HasInner all) (f x) (flat_map f xs)
    (All-weaker (HasInner (f x)) (HasInner all) (inner_more (f x) all (λ b h. Contains-append_left (f x) (flat_map f xs) b h)) (f x) (each x))
    (All-weaker (HasInner (flat_map f xs)) (HasInner all) (inner_more (flat_map f xs) all (λ b h. Contains-append_right (f x) (flat_map f xs) b h)) (flat_map f xs) (parts_have f xs each))

diff_has : (d : Diff) → All (HasInner (diff_parts d)) (diff_parts d)
diff_has d =
    let all = diff_parts d in
    All-append (HasInner all) (atom_parts d.a) (atom_parts d.b)
    (All-weaker (HasInner (atom_parts d.a)) (HasInner all) (inner_more (atom_parts d.a) all (λ b h. Contains-append_left (atom_parts d.a) (atom_parts d.b) b h)) (atom_parts d.a) (atoms_have d.a))
    (All-weaker (HasInner (atom_parts d.b)) (HasInner all) (inner_more (atom_parts d.b) all (λ b h. Contains-append_right (atom_parts d.a) (atom_parts d.b) b h)) (atom_parts d.b) (atoms_have d.b))

sizes_have : (atoms : List Atom) → All (HasInner atoms) (Zero ∷ N ∷ Nnz ∷ [])
sizes_have atoms =
    let P : Atom → Type 0 = HasInner atoms in
    All-cons P Zero (N ∷ Nnz ∷ []) (no_inner atoms Zero Atom-F.Zero outs-Zero (λ f t h. cc))
    (All-cons P N (Nnz ∷ []) (no_inner atoms N Atom-F.N outs-N (λ f t h. cc))
    (All-cons P Nnz [] (no_inner atoms Nnz Atom-F.Nnz outs-Nnz (λ f t h. cc)) (All-nil P)))

-- a list that has the atoms inside its entries keeps that when such a list is added
all_have : (atoms more : List Atom) → All (HasInner atoms) atoms → All (HasInner more) more → All (HasInner (all_listed atoms more)) (all_listed atoms more)
all_have atoms more old new =
    let all = all_listed atoms more in
    all_are (HasInner all) atoms more
    (All-weaker (HasInner atoms) (HasInner all) (inner_more atoms all (λ b h. keeps atoms more b h)) atoms old)
    (All-weaker (HasInner more) (HasInner all) (inner_more more all (λ b h. has atoms more b h)) more new)

module _ (base : List Diff) (extra : List Term) (props : List PropDecl) where
  abbrev of_sizes : List Atom
  of_sizes = Zero ∷ N ∷ Nnz ∷ []

  abbrev of_base : List Atom
  of_base = all_listed of_sizes (flat_map diff_parts base)

  abbrev written : List Atom
  written = written_atoms base extra

  written_have : All (HasInner written) written
  written_have =
      all_have of_base (flat_map term_parts extra)
      (all_have of_sizes (flat_map diff_parts base) (sizes_have of_sizes) (parts_have diff_parts base diff_has))
      (parts_have term_parts extra (λ t. (terms_have t).0))

  abbrev due : List Atom
  due = atoms_due base extra props

  in_written : (a : Atom) → Contains written a → Contains due a
  in_written a h = keeps written (flat_map (asked_beside props) written) a h

  -- what is asked for beside an atom that is written
  asked_cases : (a : Atom) (x : Atom-F Atom Term) → roll-Atom x ≡ a → Contains written a → HasInner written a → (kind : PropKind) → All (HasInner due) (diagonal_atoms a x kind)
  asked_cases a (Atom-F.At d t) e here inner (Diagonal d2 f p) = by_cases (d.0 == d2.0)
    where
      inside : Contains due t.atom
      inside = in_written t.atom (inner d t (sym e ∙ rolls-At d t))

      entry : (g : ArrayId) (u : Term) → Contains due u.atom → HasInner due (At g u)
      entry g u h g2 u2 same = subst (λ (w : Term). Contains due w.atom) (inner_is g g2 u u2 (sym (outs-At g u) ∙ ap out-Atom same ∙ outs-At g2 u2)) h

      by_cases : (b : Bool) → All (HasInner due) (cond b (At f (plain a) ∷ At p t ∷ At p (next t) ∷ []) [])
      by_cases false = All-nil (HasInner due)
      by_cases true =
          All-cons (HasInner due) (At f (plain a)) (At p t ∷ At p (next t) ∷ []) (entry f (plain a) (in_written a here))
          (All-cons (HasInner due) (At p t) (At p (next t) ∷ []) (entry p t inside)
          (All-cons (HasInner due) (At p (next t)) [] (entry p (next t) inside) (All-nil (HasInner due))))
  asked_cases a (Atom-F.At d t) e here inner (Range f lo hi) = All-nil (HasInner due)
  asked_cases a (Atom-F.At d t) e here inner (Rising p) = All-nil (HasInner due)
  asked_cases a (Atom-F.At d t) e here inner (Strict p) = All-nil (HasInner due)
  asked_cases a (Atom-F.At d t) e here inner (Injective f) = All-nil (HasInner due)
  asked_cases a (Atom-F.At d t) e here inner (Sorted f p) = All-nil (HasInner due)
  asked_cases a (Atom-F.At d t) e here inner (Below f p) = All-nil (HasInner due)
  asked_cases a (Atom-F.At d t) e here inner (Upto f p) = All-nil (HasInner due)
  asked_cases a (Atom-F.At d t) e here inner (Before f g) = All-nil (HasInner due)
  asked_cases a Atom-F.Zero e here inner kind = All-nil (HasInner due)
  asked_cases a Atom-F.N e here inner kind = All-nil (HasInner due)
  asked_cases a Atom-F.Nnz e here inner kind = All-nil (HasInner due)
  asked_cases a (Atom-F.Var v) e here inner kind = All-nil (HasInner due)

  each_asked : {X : Type 0} (P : Atom → Type 0) (f : X → List Atom) (xs : List X) → ((x : X) → Contains xs x → All P (f x)) → All P (flat_map f xs)
  each_asked P f [] each = All-nil P
  each_asked P f (x ∷ xs) each =
      All-append P (f x) (flat_map f xs) (each x (zero, omega arith, refl)) (each_asked P f xs (λ y h. each y (suc h.0, (let l = h.1 in omega arith), h.2)))

  asked_have : All (HasInner due) (flat_map (asked_beside props) written)
  asked_have =
      each_asked (HasInner due) (asked_beside props) written
      (λ a h. each_asked (HasInner due) (asked_by a) props
      (λ p i. asked_cases a (out-Atom a) (roll-out-Atom a) h (All-contains (HasInner written) written a written_have h) p.kind))

  due_have : All (HasInner due) due
  due_have =
      all_are (HasInner due) written (flat_map (asked_beside props) written)
      (All-weaker (HasInner written) (HasInner due) (inner_more written due in_written) written written_have)
      asked_have

  from_sizes : (a : Atom) → Contains of_sizes a → Contains due a
  from_sizes a h = in_written a (keeps of_base (flat_map term_parts extra) a (keeps of_sizes (flat_map diff_parts base) a h))

  pub due_closed : IsClosed due
  due_closed = record {
    zero = from_sizes Zero (0, omega arith, refl);
    n = from_sizes N (1, omega arith, refl);
    nnz = from_sizes Nnz (2, omega arith, refl);
    inner = λ f t h. All-contains (HasInner due) due (At f t) due_have h f t refl;
  }

  from_base : (d : Diff) (a : Atom) → Contains base d → Contains (diff_parts d) a → Contains due a
  from_base d a h i = in_written a (keeps of_base (flat_map term_parts extra) a (has of_sizes (flat_map diff_parts base) a (part_of diff_parts base d a h i)))

  pub due_over : AllOver due base
  due_over =
      All-weaker (Contains base) (IsOver due)
      (λ d h. (from_base d d.a h (Contains-append_left (atom_parts d.a) (atom_parts d.b) d.a (last_part d.a)), from_base d d.b h (Contains-append_right (atom_parts d.a) (atom_parts d.b) d.b (last_part d.b))))
      base (All-contains_itself base)

  pub due_terms : HasAtoms due extra
  due_terms =
      All-weaker (Contains extra) (λ (t : Term). Contains due t.atom)
      (λ t h. in_written t.atom (has of_base (flat_map term_parts extra) t.atom (part_of term_parts extra t t.atom h (terms_have t).1)))
      extra (All-contains_itself extra)
