-- Instances that fire, and the passes over them.
use Rattle.std.proofs.Common.{ap, ℕ, ℤ, ◌<◌, ◌≤◌, ◌+◌, ◌≡◌, ◌⊎◌, inl, inr, arith, refl, List, length, slice_index_or, slice_set, slice_get, subst, sym, ◌∙◌, Some, Option, None, Bool, true, false, cond, ◌||◌, get_or-set_other}
use Rattle.std.specs.Prelude.{◌≤ℤ◌, MatchOption}
use Rattle.std.specs.Int.Signed.{◌<ℤ◌}
use Rattle.std.specs.List.{Contains}
use Rattle.std.proofs.lemmas.Bool.{cases_eq}
use Rattle.std.proofs.lemmas.List.{length-set}
use Rattle.std.proofs.lemmas.List.Sums.{sum_by-set}
use Rattle.loop_core.specs.declared.nest.Atom.{Atom}
use Rattle.uf_constraints.specs.declared.system.Diff.{Diff}
use Rattle.index_props.specs.declared.rule.RuleInst.{RuleInst}
use Rattle.index_props.specs.Derivable.{Derivable}
use Rattle.index_props.specs.Derivable.Derivable.{given, fired}
use Rattle.bound_ways.specs.Exact.{IsBound, IsLeast, Holds, IsSound, IsExact, Settled}
use Rattle.bound_ways.specs.Over.{AreOver, AreRulesOver}
use Rattle.bound_ways.specs.Places.{place_in, atom_at}
use Rattle.bound_plain.specs.Plain.{AllDerivable, TakenIn, Opposed, IsFired, IsResult, ResultsDerivable, IsMade, IsOpposed, unfired, IsHeldBack, Visited, IsKnown, IsUnknown}
use Rattle.bound_table.specs.Rows.{far, entry, Sums, unit_bound}
use Rattle.bound_ways.proofs.Atoms.{place-is}
use Rattle.bound_ways.proofs.Exactly.{exact, unit-sound}
use Rattle.bound_plain.proofs.Grids.{lower-one}
use Rattle.bound_ways.proofs.Bounding.{got, contains-got, premise-derivable}

pub fewer_set : (xs : List Bool) (i : ℕ) → i < length xs → slice_index_or xs i false ≡ false → unfired (slice_set xs i true) < unfired xs
fewer_set xs i l h =
    let s : unfired (slice_set xs i true) + cond (slice_index_or xs i false) 0 1 ≡ unfired xs + 0 = sum_by-set (λ f. cond f 0 1) xs i true false l in
    let t : unfired (slice_set xs i true) + 1 ≡ unfired xs + 0 = rw h at s in
    omega arith

-- one instance
module _ (u : List Atom) (rules : List RuleInst) (rows : List (List ℤ)) (before : List Bool) (i : ℕ) where
  pub visit-fired : IsFired before i → Visited u rules rows (λ k. k ≡ i) before before false
  visit-fired f = record {
    long = refl;
    follow = λ base s h. h;
    fewer = λ e. absurd (cc);
    same = λ e. refl;
    settled = λ e k q. inl (subst (λ (k : ℕ). IsFired before k) (sym q) f);
  }

  pub visit-held : IsHeldBack u rules rows i → Visited u rules rows (λ k. k ≡ i) before before false
  visit-held f = record {
    long = refl;
    follow = λ base s h. h;
    fewer = λ e. absurd (cc);
    same = λ e. refl;
    settled = λ e k q. inr (subst (λ (k : ℕ). IsHeldBack u rules rows k) (sym q) f);
  }

  module _ (r : RuleInst) (at : slice_get rules i ≡ Some r) (over : AreRulesOver u rules) (long : length before ≡ length rules) (lt : i < length rules) (unmarked : slice_index_or before i false ≡ false) (holds : Holds u (entry rows) r.premises) where
    fires : (base : List Diff) → IsSound u base rules (entry rows) → (d : Diff) → Contains r.results d → Derivable u base rules d.a d.b d.c
    fires base s d h =
        let c = contains-got rules i r at in
        fired r d c (λ p j. premise-derivable u base rules (entry rows) p ((over r c).premises p j) (holds p j) s) h

    derived : (base : List Diff) → IsSound u base rules (entry rows) → ResultsDerivable u base rules before → ResultsDerivable u base rules (slice_set before i true)
    derived base s h d g = elim (cases_eq g.at i) [
      | inl e ↦
          let same : slice_get rules i ≡ Some g.rule = subst (λ (k : ℕ). slice_get rules k ≡ Some g.rule) e g.is in
          let is : Some g.rule ≡ Some r = sym same ∙ at in
          let rule : g.rule ≡ r = cc in
          fires base s d (subst (λ (s : RuleInst). Contains s.results d) rule g.among)
      | inr n ↦
          let f : slice_index_or before g.at false ≡ true = rw get_or-set_other at g.fires in
          h d record { at = g.at; below = g.below; fires = f; rule = g.rule; is = g.is; among = g.among }
    ]

    pub visit-fires : Visited u rules rows (λ k. k ≡ i) before (slice_set before i true) true
    visit-fires = record {
      long = length-set before i true;
      follow = derived;
      fewer = λ e. fewer_set before i (omega arith) unmarked;
      same = λ e. absurd (cc);
      settled = λ e. absurd (cc);
    }

-- a pass
pub visited-none : (u : List Atom) (rules : List RuleInst) (rows : List (List ℤ)) (before : List Bool) → Visited u rules rows (λ k. k < 0) before before false
visited-none u rules rows before = record {
  long = refl;
  follow = λ base s h. h;
  fewer = λ e. absurd (cc);
  same = λ e. refl;
  settled = λ e k q. absurd (omega arith);
}

or_none : (a b : Bool) → (a || b) ≡ false → (a ≡ false) × (b ≡ false)
or_none true b h = absurd (cc)
or_none false b h = (refl, h)

or_some : (a b : Bool) → (a || b) ≡ true → (a ≡ true) ⊎ (a ≡ false) × (b ≡ true)
or_some true b h = inl refl
or_some false b h = inr (refl, h)

module _ (u : List Atom) (rules : List RuleInst) (rows : List (List ℤ)) (before mid now : List Bool) (i : ℕ) (any one : Bool) (v : Visited u rules rows (λ k. k < i) before mid any) (w : Visited u rules rows (λ k. k ≡ i) mid now one) where
  no_more : unfired now ≤ unfired mid
  no_more = by_case one refl
    where
      by_case : (b : Bool) → one ≡ b → unfired now ≤ unfired mid
      by_case true e = let f = w.fewer e in omega arith
      by_case false e = let f : unfired now ≡ unfired mid = ap unfired (w.same e) in omega arith

  pub visited-next : Visited u rules rows (λ k. k < i + 1) before now (any || one)
  visited-next = record {
    long = w.long ∙ v.long;
    follow = λ base s h. w.follow base s (v.follow base s h);
    fewer = λ e. elim (or_some any one e) [
      | inl p ↦ (let f = v.fewer p in let g = no_more in omega arith)
      | inr p ↦ (let f : unfired mid ≡ unfired before = ap unfired (v.same p.0) in let g = w.fewer p.1 in omega arith)
    ];
    same = λ e. let p = or_none any one e in w.same p.1 ∙ v.same p.0;
    settled = λ e k l.
        let p = or_none any one e in
        let same : mid ≡ before = v.same p.0 in
        elim (cases_eq k i) [
          | inl q ↦ subst (λ (b : List Bool). IsFired b k ⊎ IsHeldBack u rules rows k) same (w.settled p.1 k q)
          | inr n ↦ v.settled p.0 k (omega arith)
        ];
  }

-- the table of a base and of the results of the instances that have fired
module _ (u : List Atom) (base : List Diff) (rules : List RuleInst) (fired : List Bool) (first mid : List (List ℤ)) (ob : AreOver u base) (each : (x y : ℕ) → x < length u → y < length u → entry first x y ≡ unit_bound x y) where
  given_all : AllDerivable u base rules (Contains base)
  given_all d h = given d h

  pub made-stops : Opposed u (Contains base) first → IsOpposed u base rules fired
  made-stops o h = o base rules given_all (unit-sound u base rules (entry first) each)

  module _ (t : TakenIn u (Contains base) first mid) where
    sound_mid : IsSound u base rules (entry mid)
    sound_mid = t.sound base rules given_all (unit-sound u base rules (entry first) each)

    pub made-opposed : Opposed u (IsResult rules fired (length rules)) mid → IsOpposed u base rules fired
    made-opposed o h = o base rules h sound_mid

    pub made-is : (new : List (List ℤ)) → TakenIn u (IsResult rules fired (length rules)) mid new → IsMade u base rules fired new
    made-is new s = record {
      grid = s.grid;
      given = λ d h. lower-one u (entry mid) (entry new) d s.lower (ob d h) (t.holds d h);
      results = s.holds;
      sound = λ h. s.sound base rules h sound_mid;
    }

-- a pass in which nothing fires
module _ (u : List Atom) (base : List Diff) (rules : List RuleInst) (before now : List Bool) (rows : List (List ℤ)) (ob : AreOver u base) (or : AreRulesOver u rules) (m : IsMade u base rules before rows) (d : ResultsDerivable u base rules before) (v : Visited u rules rows (λ k. k < length rules) before now false) where
  settled_at : (r : RuleInst) (k : ℕ) → k < length rules → slice_get rules k ≡ Some r → Settled u (entry rows) r
  settled_at r k l g = elim (v.settled refl k l) [
    | inl f ↦ inr (λ d h. m.results d record { at = k; below = l; fires = f; rule = r; is = g; among = h })
    | inr h ↦ inl (h r g)
  ]

  pub saturated-is : IsExact u base rules (entry rows)
  saturated-is =
      let few : length u ≤ 96 = (let e = m.grid.long in let f = m.grid.table.few in omega arith) in
      let sums : Sums (length u) (entry rows) = subst (λ (n : ℕ). Sums n (entry rows)) m.grid.long m.grid.table.sums in
      exact u base rules (entry rows) few sums ob or m.given (λ r h. settled_at r h.0 h.1 (got rules h.0 r h.1 (sym h.2))) (m.sound d)

-- what the bounds of an exact table answer
module _ (u : List Atom) (base : List Diff) (rules : List RuleInst) (T : ℕ → ℕ → ℤ) (e : IsExact u base rules T) (a b : Atom) where
  unknown-none : IsUnknown u T a b → (c : ℤ) → Derivable u base rules a b c → ⊥
  unknown-none n c d = let l = e.least a b c d in n l.0 l.1 l.2

  known-least : (c : ℤ) → IsKnown u T a b c → IsLeast u base rules a b c
  known-least c k =
      let s : Derivable u base rules (atom_at u (place_in u a)) (atom_at u (place_in u b)) (T (place_in u a) (place_in u b)) = e.sound (place_in u a) (place_in u b) k.left k.right (subst (λ (z : ℤ). z <ℤ far) k.bound k.known) in
      let t : Derivable u base rules (atom_at u (place_in u a)) (atom_at u (place_in u b)) c = subst (λ (z : ℤ). Derivable u base rules (atom_at u (place_in u a)) (atom_at u (place_in u b)) z) (sym k.bound) s in
      let v : Derivable u base rules a (atom_at u (place_in u b)) c = subst (λ (x : Atom). Derivable u base rules x (atom_at u (place_in u b)) c) (place-is u a k.left) t in
      record {
        derivable = subst (λ (y : Atom). Derivable u base rules a y c) (place-is u b k.right) v;
        least = λ f d. let l = e.least a b f d in subst (λ (z : ℤ). z ≤ℤ f) (sym k.bound) l.3;
      }

  pub answers : (o : Option ℤ) → MatchOption o (IsUnknown u T a b) (IsKnown u T a b) → IsBound u base rules a b o
  answers None h = unknown-none h
  answers (Some c) h = known-least c h
