-- What a closure says of the sides of a claim.
use Rattle.std.proofs.Common.{◌≡◌, ◌↔◌, inl, inr, ℤ, pos, ◌≤ℤ◌, IsTrue, Bool, true, false, List, sym, subst, ◌∙◌, arith}
use Rattle.std.specs.Prelude.{◌-ℤ◌}
use Rattle.std.proofs.lemmas.Bool.{false≢true}
use Rattle.std.proofs.lemmas.Int.{ints}
use Rattle.loop_core.specs.declared.decl.Decl.{Decl}
use Rattle.loop_core.specs.declared.decl.PropDecl.{PropDecl}
use Rattle.loop_core.specs.declared.nest.Atom.{Atom}
use Rattle.uf_constraints.specs.declared.system.Diff.{Diff}
use Rattle.index_props.specs.declared.rule.RuleInst.{RuleInst}
use Rattle.index_props.specs.Derivable.{Derivable, IsContradictory}
use Rattle.index_props.specs.Derivable.Derivable.{weaker}
use Rattle.bound_ways.specs.Exact.{IsLeast}
use Rattle.bracket_claims.specs.declared.claim.Claim.{Claim}
use Rattle.bracket_claims.specs.Claims.{atoms_of, rules_of, low, high}
use Rattle.access_bounds.specs.declared.refusal.Side2.TheVariants.{Low, High}
use Rattle.access_bounds.specs.Accepted.{IsBounded, IsUnreached, IsShown, Lacks}

-- the least bound decides
pub least-decides : (u : List Atom) (base : List Diff) (rules : List RuleInst) (a b : Atom) (bound c : ℤ) (r : Bool) → IsLeast u base rules a b bound → (IsTrue r ↔ (bound ≤ℤ c)) → IsTrue r ↔ Derivable u base rules a b c
least-decides u base rules a b bound c r h t = (λ e. weaker a b bound c h.derivable (t.0 e), λ d. t.1 (h.least c d))

pub none-decides : (u : List Atom) (base : List Diff) (rules : List RuleInst) (a b : Atom) (c : ℤ) → ((e : ℤ) → Derivable u base rules a b e → ⊥) → IsTrue false ↔ Derivable u base rules a b c
none-decides u base rules a b c h = (λ e. absurd (false≢true e), λ d. absurd (h c d))

-- 0 <= t has the right side of t
pub low-side : (c : Claim) → c.at.plus ≡ c.at.plus -ℤ pos 0
low-side c = omega (arith, ints)

module _ (decls : List Decl) (props : List PropDecl) (c : Claim) (u : List Atom) (are : u ≡ atoms_of props c) where
  abbrev rules : List RuleInst
  rules = rules_of decls props c

  abbrev At : Diff → Type 0
  At d = Derivable u c.base rules d.a d.b d.c

  shown : (d : Diff) → At d → IsShown decls props c d
  shown d h = subst (λ v. Derivable v c.base rules d.a d.b d.c) are h

  not_shown : (d : Diff) → (At d → ⊥) → IsShown decls props c d → ⊥
  not_shown d h g = h (subst (λ v. Derivable v c.base rules d.a d.b d.c) (sym are) g)

  reached : (IsContradictory u c.base rules → ⊥) → IsUnreached decls props c → ⊥
  reached h g = h (subst (λ v. IsContradictory v c.base rules) (sym are) g)

  pub never-reached : IsContradictory u c.base rules → IsBounded decls props c
  never-reached h = inl (subst (λ v. IsContradictory v c.base rules) are h)

  pub lacks-low : (IsContradictory u c.base rules → ⊥) → (At (low c) → ⊥) → Lacks decls props c Low
  lacks-low n h = (reached n, not_shown (low c) h)

  pub lacks-high : (IsContradictory u c.base rules → ⊥) → At (low c) → (At (high c) → ⊥) → Lacks decls props c High
  lacks-high n g h = (reached n, shown (low c) g, not_shown (high c) h)

  pub lacks-none : At (low c) → At (high c) → IsBounded decls props c
  lacks-none g h = inr (shown (low c) g, shown (high c) h)

-- tests
pub not-so : {P : Type 0} (r : Bool) → r ≡ false → (IsTrue r ↔ P) → P → ⊥
not-so r is t p = false≢true (sym is ∙ t.1 p)

pub is-so : {P : Type 0} (r : Bool) → r ≡ true → (IsTrue r ↔ P) → P
is-so r is t = t.0 is
