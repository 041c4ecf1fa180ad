-- The variables and the constants of short atoms, and operations without a search.
use Rattle.std.proofs.Common.{rules, ◌≡◌, ℕ, ◌^◌, ◌≤◌, pos, Bool, true, false, ◌&&◌, List, [], ◌∷◌, ◌++◌, refl, ap, ◌∙◌, arith, unsigned_abs}
use Rattle.std.proofs.lemmas.Bool.{true≢false}
use Rattle.std.specs.Prelude.{nat_le}
use Rattle.std.specs.List.{All, list_all}
use Rattle.std.proofs.lemmas.List.Elements.{All-nil, All-cons}
use Rattle.loop_core.specs.declared.nest.VarId.{VarId}
use Rattle.loop_core.specs.declared.nest.Atom.{Atom}
use Rattle.loop_core.specs.declared.nest.Atom.TheVariants.{Zero, N, Nnz, Var}
use Rattle.loop_core.specs.declared.nest.Atom.TheFolds.{the_lemmas as of_atom}
use Rattle.loop_core.specs.Lists.{Lists}
use Rattle.uf_constraints.specs.Universe.{plain}
use Rattle.uf_constraints.specs.Constants.{atom_within, term_within}
use Rattle.inspector_run.specs.declared.plan.InspOp.{InspOp}
use Rattle.inspector_run.specs.declared.plan.InspOp.TheVariants.{Loop, Let, Find, Locate, Test, Emit}
use Rattle.inspector_run.specs.Ready.{SearchesAscending}
use Rattle.inspector_run.specs.IsPlan.{atom_vars, uses, is_among, IsSmall}
use Rattle.inspection_samples.specs.Worked.{entry_of, test_at_most, test_less}

-- Variables.

pub of_zero : atom_vars Zero ≡ []
of_zero = search (rules, of_atom)

pub of_n : atom_vars N ≡ []
of_n = search (rules, of_atom)

pub of_nnz : atom_vars Nnz ≡ []
of_nnz = search (rules, of_atom)

pub of_var : (v : VarId) → atom_vars (Var v) ≡ v ∷ []
of_var v = search (rules, of_atom)

pub of_entry : (k : ℕ) (v : VarId) → atom_vars (entry_of k v) ≡ v ∷ []
of_entry k v = search (rules, of_atom)

pub of_both : (a b : Atom) (us vs : List VarId) → atom_vars a ≡ us → atom_vars b ≡ vs → atom_vars a ++ atom_vars b ≡ us ++ vs
of_both a b us vs first second = ap (λ l. l ++ atom_vars b) first ∙ ap (λ l. us ++ l) second

-- the variables that an operation uses are among those
pub among : (earlier : List VarId) (op : InspOp) (vars : List VarId) → uses op ≡ vars → list_all (is_among earlier) vars ≡ true → list_all (is_among earlier) (uses op) ≡ true
among earlier op vars is h = ap (list_all (is_among earlier)) is ∙ h

-- Constants.

pub in_zero : (k : ℕ) → atom_within k Zero ≡ true
in_zero k = search (rules, of_atom)

pub in_n : (k : ℕ) → atom_within k N ≡ true
in_n k = search (rules, of_atom)

pub in_nnz : (k : ℕ) → atom_within k Nnz ≡ true
in_nnz k = search (rules, of_atom)

pub in_var : (k : ℕ) (v : VarId) → atom_within k (Var v) ≡ true
in_var k v = search (rules, of_atom)

pub in_plain : (k : ℕ) (a : Atom) → nat_le 0 k ≡ true → atom_within k a ≡ true → term_within k (plain a) ≡ true
in_plain k a low h =
    let is : term_within k (plain a) ≡ (atom_within k a && nat_le 0 k) = search (rules, of_atom) in
    is ∙ ap (λ b. b && nat_le 0 k) h ∙ low

pub in_entry : (k f : ℕ) (v : VarId) → nat_le 0 k ≡ true → atom_within k (entry_of f v) ≡ true
in_entry k f v low =
    let is : atom_within k (entry_of f v) ≡ term_within k (plain (Var v)) = search (rules, of_atom) in
    is ∙ in_plain k (Var v) low (in_var k v)

-- tests and terms with small constants
pub small_at_most : (a b : Atom) → atom_within (2 ^ 21) a ≡ true → atom_within (2 ^ 21) b ≡ true → IsSmall (test_at_most a b)
small_at_most a b first second =
    let none : unsigned_abs (pos 0) ≤ 2 ^ 23 = omega arith in
    (first, second, none)

pub small_less : (a b : Atom) → atom_within (2 ^ 21) a ≡ true → atom_within (2 ^ 21) b ≡ true → IsSmall (test_less a b)
small_less a b first second =
    let one : 1 ≤ 2 ^ 23 = omega arith in
    (first, second, one)

pub small_term : (a : Atom) → atom_within (2 ^ 31) a ≡ true → term_within (2 ^ 31) (plain a) ≡ true
small_term a h = in_plain (2 ^ 31) a refl h

-- Searches.

abbrev pub is_search : InspOp → Bool
is_search (Locate v p plus t) = true
is_search (Loop v lo hi) = false
is_search (Let v t) = false
is_search (Find v f plus t) = false
is_search (Test d) = false
is_search (Emit i j) = false

none_here : (a : Lists) (op : InspOp) → is_search op ≡ false → SearchesAscending a op
none_here a (Loop v lo hi) h = tt
none_here a (Let v t) h = tt
none_here a (Find v f plus t) h = tt
none_here a (Test d) h = tt
none_here a (Emit i j) h = tt
none_here a (Locate v p plus t) h = absurd (true≢false h)

abbrev pub AreNone : List InspOp → Type 0
AreNone [] = Unit {0}
AreNone (op ∷ ops) = (is_search op ≡ false) × AreNone ops

-- where nothing is located, no array has to ascend
pub none_ascend : (a : Lists) (ops : List InspOp) → AreNone ops → All (SearchesAscending a) ops
none_ascend a [] h = All-nil (SearchesAscending a)
none_ascend a (op ∷ ops) h = All-cons (SearchesAscending a) op ops (none_here a op h.0) (none_ascend a ops h.1)
