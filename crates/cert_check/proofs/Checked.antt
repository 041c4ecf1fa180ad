-- What the steps of a certificate give is derivable.
use Rattle.std.proofs.Common.{ℕ, ℤ, pos, zero, suc, ◌<◌, ◌+◌, ◌≡◌, ◌⊎◌, inl, inr, arith, refl, List, [], ◌∷◌, ◌++◌, length, slice_index_or, slice_get, subst, sym, Bool, true, false, cond, Option, Some, None, Err, drop, drop-cons, add-one, int_le}
use Rattle.std.specs.Prelude.{◌+ℤ◌, ◌≤ℤ◌, ◌&&◌, option_and_then}
use Rattle.std.specs.List.{Contains}
use Rattle.std.specs.Ordering.{int_eq}
use Rattle.std.specs.Option.{option_map_or}
use Rattle.std.proofs.lemmas.Option.{slice_get_within, get_or_from_slice_get, cond_some, option_and_then_some}
use Rattle.std.proofs.lemmas.Int.{ints}
use Rattle.std.proofs.lemmas.Bool.Decides.{Decides-int_eq}
use Rattle.std.proofs.lemmas.List.Elements.{Contains-push_cases}
use Rattle.loop_core.specs.declared.nest.Atom.{Atom}
use Rattle.uf_constraints.specs.declared.system.Diff.{Diff}
use Rattle.uf_constraints.specs.Same.{same_atom, is_listed}
use Rattle.uf_constraints.proofs.Equal.{both, atom_is, listed_is}
use Rattle.index_props.specs.declared.rule.RuleInst.{RuleInst}
use Rattle.index_props.specs.declared.certificate.Step.{Step}
use Rattle.index_props.specs.declared.certificate.Step.TheVariants.{Base, Same, Sum, Weaken, Rule}
use Rattle.index_props.specs.Certificate.{conclusion, sum_of, same_of, weakened, result_of, named, outcome, same_diff, fits}
use Rattle.index_props.specs.Derivable.{Derivable}
use Rattle.index_props.specs.Derivable.Derivable.{given, same, joined, weaker, fired}

cond_get : {A : Type 0} (b : Bool) (o : Option A) (x : A) → cond b o None ≡ Some x → (b ≡ true) × (o ≡ Some x)
cond_get true o x h = (refl, h)
cond_get false o x h = absurd (cc)

contains_cases : {X : Type 0} (x : X) (xs : List X) (y : X) → Contains (x ∷ xs) y → (x ≡ y) ⊎ Contains xs y
contains_cases x xs y (zero, l, e) = inl e
contains_cases x xs y (suc k, l, e) = inr (k, omega arith, e)

got : {X : Type 0} (xs : List X) (k : ℕ) (x : X) → slice_get xs k ≡ Some x → Contains xs x
got xs k x h = (k, slice_get_within xs k x h, get_or_from_slice_get xs k x x h)

-- a test that stands at a constraint that was found
found : (f : Diff → Bool) (o : Option Diff) → option_map_or f o false ≡ true → (d : Diff) × (o ≡ Some d) × (f d ≡ true)
found f None h = absurd (cc)
found f (Some d) h = (d, refl, h)

module _ (u : List Atom) (base : List Diff) (rules : List RuleInst) where
  abbrev Known : Diff → Type 0
  Known d = Derivable u base rules d.a d.b d.c

  -- each constraint of a list is derivable
  abbrev pub AllKnown : List Diff → Type 0
  AllKnown ds = (d : Diff) → Contains ds d → Known d

  along : (d e : Diff) → d ≡ e → Known d → Known e
  along d e h = subst Known h

  known_same : (p e : Diff) → same_diff p e ≡ true → Known e → Known p
  known_same p e h d =
      let first = both (same_atom p.a e.a) (same_atom p.b e.b && int_eq p.c e.c) h in
      let second = both (same_atom p.b e.b) (int_eq p.c e.c) first.1 in
      let a = atom_is p.a e.a first.0 in
      let b = atom_is p.b e.b second.0 in
      let c = (Decides-int_eq p.c e.c).0 second.1 in
      subst (λ (x : Atom). Derivable u base rules x p.b p.c) (sym a) (subst (λ (y : Atom). Derivable u base rules e.a y p.c) (sym b) (subst (λ (z : ℤ). Derivable u base rules e.a e.b z) (sym c) d))

  known_itself : (a : Atom) (d : Diff) → same_of u a ≡ Some d → Known d
  known_itself a d h =
      let c = cond_some (is_listed u a) (record { a = a; b = a; c = pos 0 }) d h in
      along (record { a = a; b = a; c = pos 0 }) d c.1 (same a (listed_is u a c.0))

  module _ (earlier : List Diff) (known : AllKnown earlier) where
    at : (k : ℕ) (d : Diff) → slice_get earlier k ≡ Some d → Known d
    at k d h = known d (got earlier k d h)

    sum_known : (k l : ℕ) (x y d : Diff) → slice_get earlier k ≡ Some x → slice_get earlier l ≡ Some y → sum_of x y ≡ Some d → Known d
    sum_known k l x y d e f h =
        let c = cond_some (same_atom x.b y.a && fits (x.c +ℤ y.c)) (record { a = x.a; b = y.b; c = x.c +ℤ y.c }) d h in
        let q = atom_is x.b y.a (both (same_atom x.b y.a) (fits (x.c +ℤ y.c)) c.0).0 in
        along (record { a = x.a; b = y.b; c = x.c +ℤ y.c }) d c.1 (joined x.a y.a y.b x.c y.c (subst (λ (z : Atom). Derivable u base rules x.a z x.c) q (at k x e)) (at l y f))

    weaken_known : (k : ℕ) (z : ℤ) (x d : Diff) → slice_get earlier k ≡ Some x → weakened z x ≡ Some d → Known d
    weaken_known k z x d e h =
        let c = cond_some (int_le x.c z) (record { a = x.a; b = x.b; c = z }) d h in
        let le : x.c ≤ℤ z = (let t = c.0 in grind (arith, ints)) in
        along (record { a = x.a; b = x.b; c = z }) d c.1 (weaker x.a x.b x.c z (at k x e) le)

    named_known : (ps : List Diff) (ks : List ℕ) → named earlier ps ks ≡ true → AllKnown ps
    named_known [] ks h p i = absurd (let l = i.1 in omega arith)
    named_known (q ∷ ps) [] h p i = absurd (cc)
    named_known (q ∷ ps) (k ∷ ks) h p i =
        let c = both (option_map_or (same_diff q) (slice_get earlier k) false) (named earlier ps ks) h in
        let x = found (same_diff q) (slice_get earlier k) c.0 in
        elim (contains_cases q ps p i) [
          | inl f ↦ along q p f (known_same q x.0 x.2 (at k x.0 x.1))
          | inr f ↦ named_known ps ks c.1 p f
        ]

    rule_known : (i j : ℕ) (ks : List ℕ) (r : RuleInst) (d : Diff) → slice_get rules i ≡ Some r → result_of earlier j ks r ≡ Some d → Known d
    rule_known i j ks r d e h =
        let c = cond_get (named earlier r.premises ks) (slice_get r.results j) d h in
        fired r d (got rules i r e) (named_known r.premises ks c.0) (got r.results j d c.1)

    pub conclusion_known : (s : Step) (d : Diff) → conclusion u base rules earlier s ≡ Some d → Known d
    conclusion_known (Base k) d h = given d (got base k d h)
    conclusion_known (Same a) d h = known_itself a d h
    conclusion_known (Sum k l) d h =
        option_and_then_some (λ x. option_and_then (sum_of x) (slice_get earlier l)) (slice_get earlier k) d h
        (λ x e g. option_and_then_some (sum_of x) (slice_get earlier l) d g (λ y f q. sum_known k l x y d e f q))
    conclusion_known (Weaken k c) d h = option_and_then_some (weakened c) (slice_get earlier k) d h (λ x e g. weaken_known k c x d e g)
    conclusion_known (Rule i j ks) d h = option_and_then_some (result_of earlier j ks) (slice_get rules i) d h (λ r e g. rule_known i j ks r d e g)

  pub none_known : AllKnown []
  none_known d h = absurd (let l = h.1 in omega arith)

  pub more_known : (earlier new : List Diff) (s : Step) (d : Diff) → new ≡ earlier ++ d ∷ [] → AllKnown earlier → conclusion u base rules earlier s ≡ Some d → AllKnown new
  more_known earlier new s d e h c = subst AllKnown (sym e) (λ x i.
      elim (Contains-push_cases earlier d x i) [
        | inl p ↦ h x p
        | inr p ↦ along d x p (conclusion_known earlier h s d c)
      ])

  pub outcome_more : (earlier new : List Diff) (steps : List Step) (i : ℕ) (s : Step) (d : Diff) → i < length steps → s ≡ slice_index_or steps i s → new ≡ earlier ++ d ∷ [] → conclusion u base rules earlier s ≡ Some d → outcome u base rules earlier (drop i steps) ≡ outcome u base rules new (drop (i + 1) steps)
  outcome_more earlier new steps i s d lt is e c = rw (add-one i, drop-cons steps i s lt, ← is, c, e) refl

  pub outcome_bad : (earlier : List Diff) (steps : List Step) (i : ℕ) (s : Step) → i < length steps → s ≡ slice_index_or steps i s → conclusion u base rules earlier s ≡ None → outcome u base rules earlier (drop i steps) ≡ Err (length earlier)
  outcome_bad earlier steps i s lt is c = rw (drop-cons steps i s lt, ← is, c) refl
