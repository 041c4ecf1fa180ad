-- A table in which the base holds and each instance is settled is exact.
use Rattle.std.proofs.Common.{ℕ, ℤ, pos, zero, suc, ◌<◌, ◌≤◌, ◌≡◌, ◌⊎◌, inl, inr, arith, refl, List, [], ◌∷◌, length, slice_index_or, subst, sym, true, false, Bool}
use Rattle.std.specs.Prelude.{◌+ℤ◌, ◌≤ℤ◌}
use Rattle.std.specs.Int.Signed.{◌<ℤ◌}
use Rattle.std.specs.List.{Contains}
use Rattle.std.proofs.lemmas.Int.{ints}
use Rattle.loop_core.specs.declared.nest.Atom.{Atom}
use Rattle.uf_constraints.specs.declared.system.Diff.{Diff}
use Rattle.index_props.specs.declared.rule.RuleInst.{RuleInst}
use Rattle.index_props.specs.Derivable.{Derivable}
use Rattle.index_props.specs.Derivable.Derivable.{given, same, joined, weaker, fired}
use Rattle.bound_ways.specs.Exact.{bound_of, Holds, IsSound, IsExact, Settled}
use Rattle.bound_ways.specs.Over.{IsOver, AreOver, AreRulesOver}
use Rattle.bound_ways.specs.Places.{place_in, atom_at}
use Rattle.bound_table.specs.Rows.{far, Sums, unit_bound}
use Rattle.bound_ways.proofs.Atoms.{place-in}
use Rattle.bound_table.proofs.Improve.{unit_same, unit_finite}
use Rattle.bound_table.proofs.Tight.{range}

-- what holds in the table
pub record Known (u : List Atom) (T : ℕ → ℕ → ℤ) (a b : Atom) (c : ℤ) : Type 0 where
  pub left : place_in u a < length u
  pub right : place_in u b < length u
  pub known : T (place_in u a) (place_in u b) <ℤ far
  pub holds : T (place_in u a) (place_in u b) ≤ℤ c

pub known-diff : (u : List Atom) (T : ℕ → ℕ → ℤ) (d : Diff) → IsOver u d → bound_of u T d ≤ℤ d.c → Known u T d.a d.b d.c
known-diff u T d o h = let s = o.small in record { left = place-in u d.a o.left; right = place-in u d.b o.right; known = omega (arith, ints); holds = h }

module _ (u : List Atom) (base : List Diff) (rules : List RuleInst) (T : ℕ → ℕ → ℤ) (few : length u ≤ 96) (t : Sums (length u) T) (or : AreRulesOver u rules) (hb : (d : Diff) → Contains base d → Known u T d.a d.b d.c) (hr : (r : RuleInst) → Contains rules r → Settled u T r) where
  known-sum : (a b d : Atom) (c e : ℤ) → Known u T a b c → Known u T b d e → Known u T a d (c +ℤ e)
  known-sum a b d c e h i =
      let s = t.below (place_in u a) (place_in u b) (place_in u d) h.left h.right i.right h.known i.known in
      let p = range (length u) T few t (place_in u a) (place_in u b) h.left h.right h.known in
      let q = range (length u) T few t (place_in u b) (place_in u d) i.left i.right i.known in
      let f = h.holds in let g = i.holds in
      record { left = h.left; right = i.right; known = omega (arith, ints); holds = omega (arith, ints) }

  known-rule : (r : RuleInst) (d : Diff) → Contains rules r → ((p : Diff) → Contains r.premises p → Known u T p.a p.b p.c) → Contains r.results d → Known u T d.a d.b d.c
  known-rule r d i ps j = elim (hr r i) [
    | inl f ↦ (let p = (ps f.0 f.1).holds in let q = f.2 in absurd (omega (arith, ints)))
    | inr g ↦ known-diff u T d ((or r i).results d j) (g d j)
  ]

  pub known : {a b : Atom} {c : ℤ} → Derivable u base rules a b c → Known u T a b c
  known (given d h) = hb d h
  known (same a h) = let l = place-in u a h in let e = t.itself (place_in u a) l in record { left = l; right = l; known = omega (arith, ints); holds = omega (arith, ints) }
  known (joined a b d c e h i) = known-sum a b d c e (known h) (known i)
  known (weaker a b c e h i) = let k = known h in let f = k.holds in record { left = k.left; right = k.right; known = k.known; holds = omega (arith, ints) }
  known (fired r d i ps j) = known-rule r d i (λ p k. known (ps p k)) j

  pub exact-of : IsSound u base rules T → IsExact u base rules T
  exact-of s = record {
    sound = s;
    least = λ a b c d. let k = known d in (k.left, k.right, k.known, k.holds);
    consistent = λ d. let k = known d.1 in let e = t.itself (place_in u d.0) k.left in let f = k.holds in omega (arith, ints);
  }

pub exact : (u : List Atom) (base : List Diff) (rules : List RuleInst) (T : ℕ → ℕ → ℤ) → length u ≤ 96 → Sums (length u) T → AreOver u base → AreRulesOver u rules → Holds u T base → ((r : RuleInst) → Contains rules r → Settled u T r) → IsSound u base rules T → IsExact u base rules T
exact u base rules T few t ob or hb hr s = exact-of u base rules T few t or (λ d h. known-diff u T d (ob d h) (hb d h)) hr s

-- a table in which nothing is known, and no steps
pub unit-sound : (u : List Atom) (base : List Diff) (rules : List RuleInst) (T : ℕ → ℕ → ℤ) → ((x y : ℕ) → x < length u → y < length u → T x y ≡ unit_bound x y) → IsSound u base rules T
unit-sound u base rules T is x y lx ly h =
    let e : x ≡ y = unit_finite (length u) T is x y lx ly h in
    let d : Derivable u base rules (atom_at u x) (atom_at u x) (pos 0) = same (atom_at u x) (x, lx, get-itself u x lx) in
    subst (λ (k : ℕ). Derivable u base rules (atom_at u x) (atom_at u k) (T x k)) e (subst (λ (z : ℤ). Derivable u base rules (atom_at u x) (atom_at u x) z) (sym (unit_same (length u) T is x lx)) d)
  where
    get-itself : (u : List Atom) (x : ℕ) → x < length u → slice_index_or u x (atom_at u x) ≡ atom_at u x
    get-itself [] x l = absurd (omega arith)
    get-itself (b ∷ bs) zero l = refl
    get-itself (b ∷ bs) (suc x) l = get-itself bs x (omega arith)

pub test_is : (b : Bool) → (b ≡ true) ⊎ (b ≡ false)
test_is true = inl refl
test_is false = inr refl
