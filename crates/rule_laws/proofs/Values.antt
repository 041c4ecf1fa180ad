-- The values of terms, and of constraints between them.
use Rattle.std.proofs.Common.{ℕ, ℤ, pos, negsuc, ◌+ℤ◌, ◌≤ℤ◌, ◌<◌, ◌≡◌, IsTrue, false, List, [], length, refl, sym, ap, ◌∙◌, subst, arith, rules, slice_get}
use Rattle.std.specs.Int.Signed.{◌<ℤ◌}
use Rattle.std.specs.Option.{option_map_or}
use Rattle.std.specs.Prelude.{Option, Some, None}
use Rattle.std.proofs.lemmas.Int.{ints}
use Rattle.wave_base.specs.declared.types.ArrayId.{ArrayId}
use Rattle.loop_core.specs.declared.decl.Decl.{Decl}
use Rattle.loop_core.specs.declared.decl.Size.{Size}
use Rattle.loop_core.specs.declared.decl.Size.TheVariants.{N as of_n, NPlusOne, Nnz as of_nnz}
use Rattle.loop_core.specs.declared.nest.Term.{Term}
use Rattle.loop_core.specs.declared.nest.Atom.{Atom, out-Atom, roll-Atom, roll-out-Atom}
use Rattle.loop_core.specs.declared.nest.Atom.TheOpen.{Atom-F}
use Rattle.loop_core.specs.IsNest.{is_bound}
use Rattle.loop_core.specs.declared.nest.Atom as ATOM
use Rattle.loop_core.specs.declared.nest.Atom.TheVariants.{Zero, At}
use Rattle.loop_core.specs.Lists.{Lists, list_of, word_at}
use Rattle.loop_core.specs.Binding.{Binding}
use Rattle.loop_core.specs.Terms.{term_value, atom_value}
use Rattle.loop_core.specs.Sizes.{sizes, is_index, declared_length, size_length}
use Rattle.uf_constraints.specs.Truth.{Holds}
use Rattle.uf_constraints.specs.Universe.{plain, next}
use Rattle.index_props.specs.Entries.{size_term, length_term}
use Rattle.index_props.specs.Rules.{at_most, less}
use Rattle.index_props.specs.Meanings.{at}
use Rattle.index_props.specs.Sound.{IndexLengths}

pub split : (a : Lists) (env : List Binding) (t : Term) → term_value a env t ≡ atom_value a env t.atom +ℤ t.plus
split a env t = search (rules, ATOM.TheFolds.the_lemmas)

pub at_most_to : (a : Lists) (env : List Binding) (s t : Term) → Holds a env (at_most s t) → term_value a env s ≤ℤ term_value a env t
at_most_to a env s t h = omega (arith, ints, split a env s, split a env t)

pub at_most_from : (a : Lists) (env : List Binding) (s t : Term) → term_value a env s ≤ℤ term_value a env t → Holds a env (at_most s t)
at_most_from a env s t h = omega (arith, ints, split a env s, split a env t)

pub less_to : (a : Lists) (env : List Binding) (s t : Term) → Holds a env (less s t) → term_value a env s <ℤ term_value a env t
less_to a env s t h = omega (arith, ints, split a env s, split a env t)

pub less_from : (a : Lists) (env : List Binding) (s t : Term) → term_value a env s <ℤ term_value a env t → Holds a env (less s t)
less_from a env s t h = omega (arith, ints, split a env s, split a env t)

pub zero_value : (a : Lists) (env : List Binding) → term_value a env (plain Zero) ≡ pos 0
zero_value a env = search (rules, ATOM.TheFolds.the_lemmas)

pub next_value : (a : Lists) (env : List Binding) (t : Term) → term_value a env (next t) ≡ term_value a env t +ℤ pos 1
next_value a env t = let e = split a env t in let f = split a env (next t) in omega (arith, ints)

atom_entry : (a : Lists) (env : List Binding) (f : ArrayId) (t : Term) → atom_value a env (At f t) ≡ word_at (list_of a.lists f) (term_value a env t)
atom_entry a env f t = search (rules, ATOM.TheFolds.the_lemmas)

pub entry_value : (a : Lists) (env : List Binding) (f : ArrayId) (t : Term) → term_value a env (plain (At f t)) ≡ word_at (list_of a.lists f) (term_value a env t)
entry_value a env f t =
    let e = split a env (plain (At f t)) in
    let g = atom_entry a env f t in
    omega (arith, ints)

size_value : (a : Lists) (env : List Binding) (size : Option Size) → term_value a env (size_term size) ≡ pos (option_map_or (size_length a.n a.nnz) size 0)
size_value a env None = search (rules, ATOM.TheFolds.the_lemmas)
size_value a env (Some of_n) = search (rules, ATOM.TheFolds.the_lemmas)
size_value a env (Some NPlusOne) = search (rules, ATOM.TheFolds.the_lemmas)
size_value a env (Some of_nnz) = search (rules, ATOM.TheFolds.the_lemmas)

pub length_value : (a : Lists) (env : List Binding) (decls : List Decl) (f : ArrayId) → term_value a env (length_term decls f) ≡ pos (declared_length decls a.n a.nnz f)
length_value a env decls f = size_value a env (slice_get (sizes decls) f.0)

-- a bound has the same value whatever the variables have
atom_bound : (a : Lists) (env : List Binding) (x : Atom-F Atom Term) (plus : ℤ) → IsTrue (is_bound (record { atom = roll-Atom x; plus = plus })) → atom_value a env (roll-Atom x) ≡ atom_value a [] (roll-Atom x)
atom_bound a env Atom-F.Zero plus h = search (rules, ATOM.TheFolds.the_lemmas)
atom_bound a env Atom-F.N plus h = search (rules, ATOM.TheFolds.the_lemmas)
atom_bound a env Atom-F.Nnz plus h = search (rules, ATOM.TheFolds.the_lemmas)
atom_bound a env (Atom-F.Var v) plus h =
    let no : is_bound (record { atom = roll-Atom (Atom-F.Var v); plus = plus }) ≡ false = search (rules, ATOM.TheFolds.the_lemmas) in
    absurd (search (rules, h, no))
atom_bound a env (Atom-F.At f t) plus h =
    let no : is_bound (record { atom = roll-Atom (Atom-F.At f t); plus = plus }) ≡ false = search (rules, ATOM.TheFolds.the_lemmas) in
    absurd (search (rules, h, no))

pub bound_value : (a : Lists) (env : List Binding) (t : Term) → IsTrue (is_bound t) → term_value a env t ≡ term_value a [] t
bound_value a env t h =
    let same : roll-Atom (out-Atom t.atom) ≡ t.atom = roll-out-Atom t.atom in
    let there : IsTrue (is_bound (record { atom = roll-Atom (out-Atom t.atom); plus = t.plus })) = subst (λ x. IsTrue (is_bound (record { atom = x; plus = t.plus }))) (sym same) h in
    let rolled = atom_bound a env (out-Atom t.atom) t.plus there in
    let atoms : atom_value a env t.atom ≡ atom_value a [] t.atom = subst (λ x. atom_value a env x ≡ atom_value a [] x) same rolled in
    let one = split a env t in
    let two = split a [] t in
    omega (arith, ints)

-- an argument whose value is a place of its array
pub record IsPlace (a : Lists) (env : List Binding) (f : ArrayId) (t : Term) : Type 0 where
  pub k : ℕ
  pub here : term_value a env t ≡ pos k
  pub within : k < length (list_of a.lists f)
  pub value : term_value a env (plain (At f t)) ≡ at (list_of a.lists f) k

number : (z : ℤ) → pos 0 ≤ℤ z → (k : ℕ) × (z ≡ pos k)
number (pos k) h = (k, refl)
number (negsuc k) h = absurd (omega (arith, ints))

pub is_place : (decls : List Decl) (a : Lists) (env : List Binding) (f : ArrayId) (t : Term) → IndexLengths decls a → IsTrue (is_index decls f) → Holds a env (at_most (plain Zero) t) → Holds a env (less t (length_term decls f)) → IsPlace a env f t
is_place decls a env f t lengths index low high =
    let zero = zero_value a env in
    let extent = length_value a env decls f in
    let long = lengths f index in
    let above = at_most_to a env (plain Zero) t low in
    let below = less_to a env t (length_term decls f) high in
    let n = number (term_value a env t) (omega (arith, ints)) in
    let here : term_value a env t ≡ pos n.0 = n.1 in
    let within : n.0 < length (list_of a.lists f) = omega (arith, ints) in
    let value : term_value a env (plain (At f t)) ≡ at (list_of a.lists f) n.0 = entry_value a env f t ∙ ap (word_at (list_of a.lists f)) here in
    record { k = n.0; here = here; within = within; value = value }
