-- A wider base derives no less, so the order of a base doesn't matter.
use Rattle.std.proofs.Common.{ℤ, ◌≡◌, inl, inr, refl, sym, subst, ap, arith, List, true, false, Bool, Option, Some, None}
use Rattle.std.proofs.lemmas.Int.{ints}
use Rattle.loop_core.specs.declared.nest.Atom.{Atom}
use Rattle.uf_constraints.specs.declared.system.Diff.{Diff}
use Rattle.index_props.specs.declared.rule.RuleInst.{RuleInst}
use Rattle.index_props.specs.Derivable.{IsContradictory}
use Rattle.bound_close.specs.Closure.{Found, IsClosure, IsLeast, IsBound, AreSame}
use Rattle.bound_plain.specs.Plain.{Saturated, IsSaturation}
use Rattle.bound_ways.proofs.Exactly.{test_is}
use Rattle.bound_close.proofs.Closes.{refuted-is, wider}

pub plain-refuted : (k : Saturated) (base : List Diff) (rules : List RuleInst) → IsSaturation k base rules → IsContradictory k.atoms base rules → k.refuted ≡ true
plain-refuted k base rules i d = elim (test_is k.refuted) [
  | inl t ↦ t
  | inr f ↦ absurd ((i.found f).consistent d)
]

agree : (p q : Bool) → (p ≡ true → q ≡ true) → (q ≡ true → p ≡ true) → p ≡ q
agree true true f g = refl
agree true false f g = sym (f refl)
agree false true f g = g refl
agree false false f g = refl

module _ (j k : Found) (base other : List Diff) (rules : List RuleInst) (e : j.atoms ≡ k.atoms) (s : AreSame base other) where
  along : IsContradictory j.atoms base rules → IsContradictory k.atoms other rules
  along d = subst (λ (u : List Atom). IsContradictory u other rules) e (d.0, wider base other s.there d.1)

  back : IsContradictory k.atoms other rules → IsContradictory j.atoms base rules
  back d = subst (λ (u : List Atom). IsContradictory u base rules) (sym e) (d.0, wider other base s.back d.1)

  pub same-empty : IsClosure j base rules → IsClosure k other rules → j.refuted ≡ k.refuted
  same-empty h i = agree j.refuted k.refuted (λ t. refuted-is k other rules i (along (h.refuted t).contradictory)) (λ t. refuted-is j base rules h (back (i.refuted t).contradictory))

least-order : (u : List Atom) (base other : List Diff) (rules : List RuleInst) → AreSame base other → (a b : Atom) (c e : ℤ) → IsLeast u base rules a b c → IsLeast u other rules a b e → c ≡ e
least-order u base other rules s a b c e h i =
    let p = h.least e (wider other base s.back i.derivable) in
    let q = i.least c (wider base other s.there h.derivable) in
    omega (arith, ints)

pub same-answers : (u : List Atom) (base other : List Diff) (rules : List RuleInst) → AreSame base other → (a b : Atom) (one two : Option ℤ) → IsBound u base rules a b one → IsBound u other rules a b two → one ≡ two
same-answers u base other rules s a b None None h i = refl
same-answers u base other rules s a b None (Some e) h i = absurd (h e (wider other base s.back i.derivable))
same-answers u base other rules s a b (Some c) None h i = absurd (i c (wider base other s.there h.derivable))
same-answers u base other rules s a b (Some c) (Some e) h i = ap Some (least-order u base other rules s a b c e h i)

-- the plain closure
module _ (j : Found) (k : Saturated) (base : List Diff) (rules : List RuleInst) (e : j.atoms ≡ k.atoms) where
  pub plain-empty : IsClosure j base rules → IsSaturation k base rules → j.refuted ≡ k.refuted
  plain-empty h i =
      agree j.refuted k.refuted
      (λ t. plain-refuted k base rules i (subst (λ (u : List Atom). IsContradictory u base rules) e (h.refuted t).contradictory))
      (λ t. refuted-is j base rules h (subst (λ (u : List Atom). IsContradictory u base rules) (sym e) (i.refuted t)))

pub same-itself : (base : List Diff) → AreSame base base
same-itself base = record { there = λ d h. h; back = λ d h. h }
