-- A test that the operation before it makes true is true at each value that the operation tries.
use Rattle.std.proofs.Common.{rules, ◌≡◌, ℕ, zero, suc, ℤ, pos, ◌+ℤ◌, ◌-ℤ◌, ◌≤ℤ◌, ◌<ℤ◌, Bool, true, false, cond, ◌&&◌, List, [], ◌∷◌, ◌++◌, refl, sym, ap, ◌∙◌, subst, arith, int_le}
use Rattle.std.specs.Prelude.{◌||◌, ◌==◌}
use Rattle.std.specs.List.{All, list_all}
use Rattle.std.proofs.lemmas.Int.{ints}
use Rattle.std.proofs.lemmas.Bool.{and_parts, and_from, eq-eqb}
use Rattle.std.proofs.lemmas.List.Elements.{All-nil, All-cons, All-weaker}
use Rattle.loop_core.specs.declared.nest.VarId.{VarId}
use Rattle.loop_core.specs.declared.nest.Side.{Side}
use Rattle.loop_core.specs.declared.nest.Side.TheVariants.{Own, First, Second}
use Rattle.loop_core.specs.declared.nest.Term.{Term}
use Rattle.loop_core.specs.declared.nest.Atom.TheVariants.{Zero, N, Nnz, Var}
use Rattle.loop_core.specs.declared.nest.Atom.TheFolds.{the_lemmas as of_atom}
use Rattle.loop_core.specs.Lists.{Lists}
use Rattle.loop_core.specs.Binding.{Binding, value_in, same_variable, same_side}
use Rattle.loop_core.specs.Instances.{trips}
use Rattle.loop_core.specs.Shape.{term_vars}
use Rattle.loop_core.specs.Terms.{atom_value, term_value}
use Rattle.uf_constraints.specs.declared.system.Diff.{Diff}
use Rattle.uf_constraints.specs.Same.{same_atom}
use Rattle.uf_constraints.proofs.Equal.{atom_is}
use Rattle.inspector_run.specs.declared.plan.InspOp.{InspOp}
use Rattle.inspector_run.specs.declared.plan.InspOp.TheVariants.{Loop, Let}
use Rattle.inspector_run.specs.Tries.{numbers, numbers_between, tried, is_true}
use Rattle.inspector_run.specs.Pairs.{fixed}
use Rattle.inspector_run.specs.IsPlan.{uses, is_among}
use Rattle.inspector_run.specs.Needed.{moved_by, follows, is_of_sizes, is_said, is_sure}
use Rattle.inspector_run.proofs.Near.{natural_is}
use Rattle.inspector_run.proofs.Emitting.{other_variable, still, le_is}
use Rattle.inspector_run.proofs.Locality.{same_term_value}

-- Values of terms.

is_le : (x y : ℤ) → x ≤ℤ y → int_le x y ≡ true
is_le x y l = grind (arith, ints)

opened : (a : Lists) (env : List Binding) (t : Term) → term_value a env t ≡ (atom_value a env t.atom +ℤ t.plus)
opened a env t = search (rules, of_atom)

variable_value : (a : Lists) (env : List Binding) (k : ℕ) (v : VarId) → term_value a env (moved_by k (Var v)) ≡ (value_in env v +ℤ pos k)
variable_value a env k v = search (rules, of_atom)

-- a constraint that follows is true where the first term is at most the second
follows_true : (a : Lists) (env : List Binding) (s t : Term) (d : Diff) → follows s t d ≡ true → term_value a env s ≤ℤ term_value a env t → is_true a env d ≡ true
follows_true a env s t d h le =
    let parts = and_parts (same_atom s.atom d.a) (same_atom t.atom d.b && int_le (t.plus -ℤ s.plus) d.c) h in
    let more = and_parts (same_atom t.atom d.b) (int_le (t.plus -ℤ s.plus) d.c) parts.1 in
    let first : atom_value a env d.a ≡ atom_value a env s.atom = ap (atom_value a env) (sym (atom_is s.atom d.a parts.0)) in
    let second : atom_value a env d.b ≡ atom_value a env t.atom = ap (atom_value a env) (sym (atom_is t.atom d.b more.0)) in
    let room : (t.plus -ℤ s.plus) ≤ℤ d.c = le_is (t.plus -ℤ s.plus) d.c more.1 in
    let open_le : (atom_value a env s.atom +ℤ s.plus) ≤ℤ (atom_value a env t.atom +ℤ t.plus) = rw (opened a env s, opened a env t) at le in
    is_le (atom_value a env d.a -ℤ atom_value a env d.b) d.c (rw (first, second) (omega (arith, ints)))

-- Values that are tried.

inside : (lo hi first : ℤ) (n : ℕ) → lo ≤ℤ first → (first +ℤ pos n) ≤ℤ hi → All (λ x. (lo ≤ℤ x) × (x <ℤ hi)) (numbers n first)
inside lo hi first zero low high = All-nil (λ x. (lo ≤ℤ x) × (x <ℤ hi))
inside lo hi first (suc n) low high =
    let below : first <ℤ hi = omega (arith, ints) in
    let next : lo ≤ℤ (first +ℤ pos 1) = omega (arith, ints) in
    let rest : (first +ℤ pos 1 +ℤ pos n) ≤ℤ hi = omega (arith, ints) in
    All-cons (λ x. (lo ≤ℤ x) × (x <ℤ hi)) first (numbers n (first +ℤ pos 1)) (low, below) (inside lo hi (first +ℤ pos 1) n next rest)

between_inside : (lo hi : ℤ) → All (λ x. (lo ≤ℤ x) × (x <ℤ hi)) (numbers_between lo hi)
between_inside lo hi = by (trips lo hi) refl
  where
    by : (n : ℕ) → trips lo hi ≡ n → All (λ x. (lo ≤ℤ x) × (x <ℤ hi)) (numbers n lo)
    by zero e = All-nil (λ x. (lo ≤ℤ x) × (x <ℤ hi))
    by (suc n) e =
        let start : lo ≤ℤ lo = omega (arith, ints) in
        let end : (lo +ℤ pos (suc n)) ≤ℤ hi = omega (arith, ints, natural_is (hi -ℤ lo)) in
        inside lo hi lo (suc n) start end

-- One variable more.

-- a term of variables that were fixed before keeps its value
kept_value : (a : Lists) (vars : List VarId) (v : VarId) (x : ℤ) (env : List Binding) (t : Term) → is_among vars v ≡ false → list_all (is_among vars) (term_vars t) ≡ true → term_value a (fixed v x env) t ≡ term_value a env t
kept_value a vars v x env t none known =
    same_term_value a (fixed v x env) env (is_among vars) (λ w has. still v x env w (other_variable vars v w has none)) t known

either : {P : Type 0} (b c : Bool) → (b || c) ≡ true → (b ≡ true → P) → (c ≡ true → P) → P
either true c h f g = f refl
either false c h f g = g h

-- what is said by the last operation is true
abbrev pub Says : Lists → InspOp → List Binding → Type 0
Says a last env = (d : Diff) → is_sure last d ≡ true → is_true a env d ≡ true

pub says : (a : Lists) (op : InspOp) (env : List Binding) → ((d : Diff) → is_said op d ≡ true → is_true a env d ≡ true) → Says a op env
says a op env said d h =
    let zero_is : term_value a env (moved_by 0 Zero) ≡ pos 0 = search (rules, of_atom) in
    let n_is : term_value a env (moved_by 0 N) ≡ pos a.n = search (rules, of_atom) in
    let nnz_is : term_value a env (moved_by 0 Nnz) ≡ pos a.nnz = search (rules, of_atom) in
    either (is_of_sizes d) (is_said op d) h
    (λ s. either (follows (moved_by 0 Zero) (moved_by 0 N) d) (follows (moved_by 0 Zero) (moved_by 0 Nnz) d) s
    (λ e. follows_true a env (moved_by 0 Zero) (moved_by 0 N) d e (rw (zero_is, n_is) (omega (arith, ints))))
    (λ e. follows_true a env (moved_by 0 Zero) (moved_by 0 Nnz) d e (rw (zero_is, nnz_is) (omega (arith, ints)))))
    (said d)

-- The values that an operation tries.

side_itself : (s : Side) → same_side s s ≡ true
side_itself Own = refl
side_itself First = refl
side_itself Second = refl

variable_itself : (v : VarId) → same_variable v v ≡ true
variable_itself v = and_from (v.line == v.line) (same_side v.side v.side) (eq-eqb v.line v.line refl) (side_itself v.side)

all_of : (p : VarId → Bool) (us ws : List VarId) → list_all p (us ++ ws) ≡ true → (list_all p us ≡ true) × (list_all p ws ≡ true)
all_of p [] ws all = (refl, all)
all_of p (u ∷ us) ws all =
    let parts = and_parts (p u) (list_all p (us ++ ws)) all in
    let rest = all_of p us ws parts.1 in
    (and_from (p u) (list_all p us) parts.0 rest.0, rest.1)

own : (a : Lists) (k : ℕ) (v : VarId) (x : ℤ) (env : List Binding) → term_value a (fixed v x env) (moved_by k (Var v)) ≡ (x +ℤ pos k)
own a k v x env =
    variable_value a (fixed v x env) k v ∙ ap (λ z. z +ℤ pos k) (ap (λ b. cond b x (value_in env v)) (variable_itself v))

pub loop_says : (a : Lists) (vars : List VarId) (v : VarId) (lo hi : Term) (env : List Binding) → is_among vars v ≡ false → list_all (is_among vars) (uses (Loop v lo hi)) ≡ true
    → All (λ x. Says a (Loop v lo hi) (fixed v x env)) (tried a env (Loop v lo hi))
loop_says a vars v lo hi env none known =
    let two = all_of (is_among vars) (term_vars lo) (term_vars hi) known in
    All-weaker (λ x. (term_value a env lo ≤ℤ x) × (x <ℤ term_value a env hi)) (λ x. Says a (Loop v lo hi) (fixed v x env))
    (λ x l.
    let low_is : term_value a (fixed v x env) lo ≡ term_value a env lo = kept_value a vars v x env lo none two.0 in
    let high_is : term_value a (fixed v x env) hi ≡ term_value a env hi = kept_value a vars v x env hi none two.1 in
    let low : term_value a env lo ≤ℤ (x +ℤ pos 0) = (let h : term_value a env lo ≤ℤ x = l.0 in omega (arith, ints)) in
    let high : (x +ℤ pos 1) ≤ℤ term_value a env hi = (let h : x <ℤ term_value a env hi = l.1 in omega (arith, ints)) in
    says a (Loop v lo hi) (fixed v x env)
    (λ d s. either (follows lo (moved_by 0 (Var v)) d) (follows (moved_by 1 (Var v)) hi d) s
    (λ e. follows_true a (fixed v x env) lo (moved_by 0 (Var v)) d e (subst (λ z. z ≤ℤ term_value a (fixed v x env) (moved_by 0 (Var v))) (sym low_is) (subst (λ z. term_value a env lo ≤ℤ z) (sym (own a 0 v x env)) low)))
    (λ e. follows_true a (fixed v x env) (moved_by 1 (Var v)) hi d e (subst (λ z. z ≤ℤ term_value a (fixed v x env) hi) (sym (own a 1 v x env)) (subst (λ z. (x +ℤ pos 1) ≤ℤ z) (sym high_is) high)))))
    (tried a env (Loop v lo hi)) (between_inside (term_value a env lo) (term_value a env hi))

pub let_says : (a : Lists) (vars : List VarId) (v : VarId) (t : Term) (env : List Binding) → is_among vars v ≡ false → list_all (is_among vars) (uses (Let v t)) ≡ true
    → All (λ x. Says a (Let v t) (fixed v x env)) (tried a env (Let v t))
let_says a vars v t env none known =
    let x : ℤ = term_value a env t in
    let is : term_value a (fixed v x env) t ≡ x = kept_value a vars v x env t none known in
    let itself : term_value a (fixed v x env) (moved_by 0 (Var v)) ≡ (x +ℤ pos 0) = own a 0 v x env in
    let below : x ≤ℤ (x +ℤ pos 0) = omega (arith, ints) in
    let above : (x +ℤ pos 0) ≤ℤ x = omega (arith, ints) in
    All-cons (λ y. Says a (Let v t) (fixed v y env)) x []
    (says a (Let v t) (fixed v x env)
    (λ d s. either (follows t (moved_by 0 (Var v)) d) (follows (moved_by 0 (Var v)) t d) s
    (λ e. follows_true a (fixed v x env) t (moved_by 0 (Var v)) d e (subst (λ z. z ≤ℤ term_value a (fixed v x env) (moved_by 0 (Var v))) (sym is) (subst (λ z. x ≤ℤ z) (sym itself) below)))
    (λ e. follows_true a (fixed v x env) (moved_by 0 (Var v)) t d e (subst (λ z. z ≤ℤ term_value a (fixed v x env) t) (sym itself) (subst (λ z. (x +ℤ pos 0) ≤ℤ z) (sym is) above)))))
    (All-nil (λ y. Says a (Let v t) (fixed v y env)))
