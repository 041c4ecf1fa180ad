-- A table in which the base holds and each instance is settled is exact, and its steps pass the check.
use Rattle.std.proofs.Common.{ap, take, drop, length-take-le, slice_index_or, ◌+◌, ℕ, ℤ, negsuc, ◌<◌, ◌≤◌, ◌-◌, ◌≡◌, inl, inr, arith, refl, List, [], ◌∷◌, ◌++◌, length, slice_get, subst, sym, ◌∙◌, Some, Ok, true, false, append_assoc, Bool}
use Rattle.std.specs.Prelude.{◌≤ℤ◌, Result, Err, IfOk, not}
use Rattle.std.specs.Int.Signed.{◌<ℤ◌}
use Rattle.std.proofs.lemmas.List.{length-append, append-nil, take_more, take-append-drop}
use Rattle.loop_core.specs.declared.nest.Atom.{Atom}
use Rattle.uf_constraints.specs.declared.system.Diff.{Diff}
use Rattle.index_props.specs.declared.rule.RuleInst.{RuleInst}
use Rattle.index_props.specs.declared.certificate.Step.{Step}
use Rattle.index_props.specs.declared.certificate.Step.TheVariants.{Base, Same, Sum, Weaken, Rule}
use Rattle.index_props.specs.Derivable.{Derivable, IsContradictory}
use Rattle.index_props.specs.Derivable.Derivable.{given, same, joined, weaker, fired}
use Rattle.index_props.specs.Certificate.{conclusion, outcome, last_of}
use Rattle.bound_table.specs.declared.edge.Edge.{Edge}
use Rattle.bound_table.specs.declared.between.Between.{Between}
use Rattle.bound_close.specs.declared.workings.Workings.{Workings}
use Rattle.bound_close.specs.Between.{IsBetween, NotBetween}
use Rattle.bound_close.specs.Closure.{Found, Closed, IsClosure, IsAdded, IsGrown, IsLeast, Shows, ShowsContradiction}
use Rattle.bound_close.specs.Closure.IsGrown.{none, more as grows}
use Rattle.bound_ways.specs.Log.{IsLog, Logged, Emitted}
use Rattle.bound_ways.specs.Log.IsLog.{empty, more}
use Rattle.bound_table.specs.Marks.{no_edge}
use Rattle.bound_ways.specs.Over.{IsOver, AreRulesOver}
use Rattle.bound_ways.specs.Exact.{bound_of, IsLower}
use Rattle.std.specs.List.{Contains}
use Rattle.std.proofs.lemmas.Int.{ints}
use Rattle.std.proofs.lemmas.List.Elements.{Contains-push, Contains-push_cases, Contains-append_left}
use Rattle.bound_close.specs.Passes.{AllSettled, Stopped}
use Rattle.bound_close.specs.Waits.{Tended, Steady, AllCovered, IsTending, edges}
use Rattle.bound_close.specs.declared.engine.Engine.{Engine}
use Rattle.bound_close.proofs.Passing.{settled}
use Rattle.bound_ways.specs.Places.{place_in, atom_at, diff_at}
use Rattle.bound_table.specs.Rows.{far, Sums, unit_bound}
use Rattle.bound_close.specs.Workings.{bounds, IsFine, Kept, Grown, Clashes, Refuted}
use Rattle.bound_ways.proofs.Atoms.{place-is}
use Rattle.bound_ways.proofs.Emits.{get-last, get-left, weaken-given}
use Rattle.bound_ways.proofs.Bounding.{a_in, b_in, lower-trans}
use Rattle.bound_ways.proofs.Exactly.{Known, known-diff, exact-of, unit-sound, test_is}

pub kept-first : (u : List Atom) (base : List Diff) (rules : List RuleInst) (w : Workings) → ((x y : ℕ) → x < length u → y < length u → bounds w x y ≡ unit_bound x y) → w.table.edges.items ≡ no_edge ∷ [] → w.steps ≡ [] → Kept u base rules w
kept-first u base rules w each edges steps = record {
  sound = unit-sound u base rules (bounds w) each;
  logged = ([], rw steps empty, rw edges (λ e l g. absurd (omega arith)));
}

pub from_not_false : (b : Bool) → not b ≡ false → b ≡ true
from_not_false true h = refl
from_not_false false h = absurd (cc)

pub from_not_true : (b : Bool) → not b ≡ true → b ≡ false
from_not_true true h = absurd (cc)
from_not_true false h = refl

-- Bases that grow.

-- a step gives the same beside a longer base
concludes : (u : List Atom) (base extra : List Diff) (rules : List RuleInst) (ds : List Diff) (s : Step) (d : Diff) → conclusion u base rules ds s ≡ Some d → conclusion u (base ++ extra) rules ds s ≡ Some d
concludes u base extra rules ds (Base k) d h = get-left base extra k d h
concludes u base extra rules ds (Same a) d h = h
concludes u base extra rules ds (Sum k l) d h = h
concludes u base extra rules ds (Weaken k c) d h = h
concludes u base extra rules ds (Rule i j ks) d h = h

log-wider : {u : List Atom} {base : List Diff} (extra : List Diff) {rules : List RuleInst} {steps : List Step} {ds : List Diff} → IsLog u base rules steps ds → IsLog u (base ++ extra) rules steps ds
log-wider extra empty = empty
log-wider {u} {base} extra {rules} (more steps ds s d l c) = more steps ds s d (log-wider extra l) (concludes u base extra rules ds s d c)

pub wider : {u : List Atom} {rules : List RuleInst} (base extra : List Diff) → ((d : Diff) → Contains base d → Contains extra d) → {a b : Atom} {c : ℤ} → Derivable u base rules a b c → Derivable u extra rules a b c
wider base extra s (given d h) = given d (s d h)
wider base extra s (same a h) = same a h
wider base extra s (joined a b d c e g h) = joined a b d c e (wider base extra s g) (wider base extra s h)
wider base extra s (weaker a b c e g h) = weaker a b c e (wider base extra s g) h
wider base extra s (fired r d i ps j) = fired r d i (λ p k. wider base extra s (ps p k)) j

pub kept-wider : (u : List Atom) (base extra : List Diff) (rules : List RuleInst) (w : Workings) → Kept u base rules w → Kept u (base ++ extra) rules w
kept-wider u base extra rules w k = record {
  sound = λ x y lx ly h. wider base (base ++ extra) (λ d c. Contains-append_left base extra d c) (k.sound x y lx ly h);
  logged = (k.logged.0, log-wider extra k.logged.1, k.logged.2);
}

pub refuted-wider : (u : List Atom) (base extra : List Diff) (rules : List RuleInst) (steps : List Step) → Refuted u base rules steps → Refuted u (base ++ extra) rules steps
refuted-wider u base extra rules steps r = record {
  contradictory = (r.contradictory.0, wider base (base ++ extra) (λ d c. Contains-append_left base extra d c) r.contradictory.1);
  shown = (r.shown.0, r.shown.1, log-wider extra r.shown.2);
}

pub last-given : (base : List Diff) (d : Diff) (at : ℕ) → at ≡ length base → slice_get (base ++ d ∷ []) at ≡ Some d
last-given base d at e = get-last base d at e

-- a constraint that is taken in
module _ (u : List Atom) (base : List Diff) (rules : List RuleInst) (d : Diff) (at : ℕ) (is : at ≡ length base) (old new : Workings) where
  there : Contains (base ++ d ∷ []) d
  there = Contains-push base d

  pub kept-grown : Kept u (base ++ d ∷ []) rules old → Grown u old new d (Base at) → Kept u (base ++ d ∷ []) rules new
  kept-grown k g =
      let r = g.longer (base ++ d ∷ []) rules k.logged.0 k.logged.1 k.logged.2 (last-given base d at is) in
      record { sound = g.sound (base ++ d ∷ []) rules k.sound (given d there); logged = (k.logged.0 ++ r.0, r.1, r.2) }

  pub grown-clashes : Kept u (base ++ d ∷ []) rules old → Clashes u old new d (Base at) → Refuted u (base ++ d ∷ []) rules new.steps
  grown-clashes k c = c (base ++ d ∷ []) rules k.logged.0 k.sound (given d there) k.logged.1 k.logged.2 (last-given base d at is)

-- an empty base
pub closed-first : (u : List Atom) (rules : List RuleInst) (w : Workings) → length u ≤ 96 → AreRulesOver u rules → IsFine u w → AllSettled u rules w → Kept u [] rules w → Closed u [] rules w
closed-first u rules w few or f s k =
    let sums : Sums (length u) (bounds w) = subst (λ (n : ℕ). Sums n (bounds w)) f.long f.traced.table.sums in
    record {
      fine = f;
      exact = exact-of u [] rules (bounds w) few sums or (λ d c. absurd (let l = c.1 in omega arith)) s k.sound;
      logged = k.logged;
    }

-- one constraint more
pub closed-next : (u : List Atom) (base : List Diff) (rules : List RuleInst) (d : Diff) (old mid new : Workings) → length u ≤ 96 → AreRulesOver u rules → IsOver u d → Closed u base rules old → IsLower (length u) (bounds old) (bounds new) → IsLower (length u) (bounds mid) (bounds new) → bound_of u (bounds mid) d ≤ℤ d.c → IsFine u new → AllSettled u rules new → Kept u (base ++ d ∷ []) rules new → Closed u (base ++ d ∷ []) rules new
closed-next u base rules d old mid new few or o c low lower h f s k =
    let sums : Sums (length u) (bounds new) = subst (λ (n : ℕ). Sums n (bounds new)) f.long f.traced.table.sums in
    record {
      fine = f;
      exact = exact-of u (base ++ d ∷ []) rules (bounds new) few sums or known_given s k.sound;
      logged = k.logged;
    }
  where
    old_known : (e : Diff) → Contains base e → Known u (bounds new) e.a e.b e.c
    old_known e i =
        let l = c.exact.least e.a e.b e.c (given e i) in
        let m = low (place_in u e.a) (place_in u e.b) l.0 l.1 in
        let p = l.2 in
        let q = l.3 in
        record { left = l.0; right = l.1; known = omega (arith, ints); holds = omega (arith, ints) }

    new_known : Known u (bounds new) d.a d.b d.c
    new_known =
        let m = lower (place_in u d.a) (place_in u d.b) (a_in u d o) (b_in u d o) in
        known-diff u (bounds new) d o (omega (arith, ints))

    known_given : (e : Diff) → Contains (base ++ d ∷ []) e → Known u (bounds new) e.a e.b e.c
    known_given e i = elim (Contains-push_cases base d e i) [
      | inl q ↦ old_known e q
      | inr q ↦ subst (λ (e : Diff). Known u (bounds new) e.a e.b e.c) q new_known
    ]

-- What follows by instances.

module _ (u : List Atom) (rules : List RuleInst) (old mid new : Engine) (over : AreRulesOver u rules) where
  few : Tended u rules new → length u ≤ 96
  few h = let e = h.fine.long in let f = h.fine.traced.table.few in omega arith

  pub tending : Steady u rules mid new → AllCovered u rules new (edges new) → IsTending u rules new
  tending s c = record { tended = s.tended; covered = c }

  pub start-closed : Steady u rules old mid → Steady u rules mid new → AllCovered u rules new (edges new) → Kept u [] rules old.workings → Closed u [] rules new.workings
  start-closed r s c k =
      closed-first u rules new.workings (few s.tended) over s.tended.fine (settled u rules new (tending s c)) ((s.forward.onward []).kept ((r.forward.onward []).kept k))

  pub start-stopped : Steady u rules old mid → Stopped u rules mid.workings new.workings → Kept u [] rules old.workings → Refuted u [] rules new.workings.steps
  start-stopped r s k = s [] ((r.forward.onward []).kept k)

  module _ (d : Diff) (at : ℕ) (o : IsOver u d) (g : Grown u old.workings mid.workings d (Base at)) (base : List Diff) (is : at ≡ length base) (c : Closed u base rules old.workings) where
    kept_mid : Kept u (base ++ d ∷ []) rules mid.workings
    kept_mid = kept-grown u base rules d at is old.workings mid.workings (kept-wider u base (d ∷ []) rules old.workings record { sound = c.exact.sound; logged = c.logged }) g

    pub grow-closed : Steady u rules mid new → AllCovered u rules new (edges new) → Closed u (base ++ d ∷ []) rules new.workings
    grow-closed s a =
        let on = s.forward.onward (base ++ d ∷ []) in
        closed-next u base rules d old.workings mid.workings new.workings (few s.tended) over o c (lower-trans (length u) (bounds old.workings) (bounds mid.workings) (bounds new.workings) g.lower on.lower) on.lower g.holds s.tended.fine (settled u rules new (tending s a)) (on.kept kept_mid)

    pub grow-stopped : Stopped u rules mid.workings new.workings → Refuted u (base ++ d ∷ []) rules new.workings.steps
    grow-stopped s = s (base ++ d ∷ []) kept_mid

pub grow-clashes : (u : List Atom) (rules : List RuleInst) (old new : Workings) (d : Diff) (at : ℕ) → Clashes u old new d (Base at) → (base : List Diff) → at ≡ length base → Closed u base rules old → Refuted u (base ++ d ∷ []) rules new.steps
grow-clashes u rules old new d at h base is c = grown-clashes u base rules d at is old new (kept-wider u base (d ∷ []) rules old record { sound = c.exact.sound; logged = c.logged }) h

-- A base that is taken in, one constraint after another.

module _ (base : List Diff) (at : ℕ) (d : Diff) (lt : at < length base) (is : d ≡ slice_index_or base at d) where
  pub at-end : at ≡ length (take at base)
  at-end = sym (length-take-le at base (omega arith))

  pub one-more : take at base ++ d ∷ [] ≡ take (at + 1) base
  one-more = sym (take_more base at d lt ∙ ap (λ (x : Diff). take at base ++ x ∷ []) (sym is))

  pub refuted-all : (u : List Atom) (rules : List RuleInst) (steps : List Step) → Refuted u (take at base ++ d ∷ []) rules steps → Refuted u base rules steps
  refuted-all u rules steps r =
      subst (λ (l : List Diff). Refuted u l rules steps) (take-append-drop (at + 1) base)
      (refuted-wider u (take (at + 1) base) (drop (at + 1) base) rules steps (subst (λ (l : List Diff). Refuted u l rules steps) one-more r))

-- A closure that grows.

pub closed-copy : (u : List Atom) (base : List Diff) (rules : List RuleInst) (g f : Engine) → f.workings.table.rows.items ≡ g.workings.table.rows.items → f.workings.table.marks.items ≡ g.workings.table.marks.items → f.workings.table.edges.items ≡ g.workings.table.edges.items → f.workings.steps ≡ g.workings.steps → Closed u base rules g.workings → Closed u base rules f.workings
closed-copy u base rules g f rows ms es ss c = record {
  fine = record { long = rw rows c.fine.long; traced = rw (rows, ms, es) c.fine.traced };
  exact = rw rows c.exact;
  logged = rw (ss, es) c.logged;
}

pub added-refuted : (u : List Atom) (rules : List RuleInst) (g : Engine) (n m : ℕ) (r : Bool) (d : Diff) → r ≡ true → m ≡ n + 1 → IsAdded rules record { atoms = u; engine = g; given = n; refuted = r } d record { atoms = u; engine = g; given = m; refuted = r }
added-refuted u rules g n m r d t e = record {
  atoms = refl;
  closure = λ base h. record {
    found = λ f. absurd (cc);
    waits = λ f. absurd (cc);
    given = (let l = length-append base (d ∷ []) in let k = h.given in omega arith);
    refuted = λ f. refuted-wider u base (d ∷ []) rules g.workings.steps (h.refuted f);
  };
}

pub added-grown : (u : List Atom) (rules : List RuleInst) (g f new : Engine) (n m : ℕ) (r fine : Bool) (d : Diff) → r ≡ false → m ≡ n + 1 → ((base : List Diff) → Closed u base rules g.workings → Closed u base rules f.workings) → (fine ≡ true → IsTending u rules new) → (fine ≡ true → (base : List Diff) → n ≡ length base → Closed u base rules f.workings → Closed u (base ++ d ∷ []) rules new.workings) → (fine ≡ false → (base : List Diff) → n ≡ length base → Closed u base rules f.workings → Refuted u (base ++ d ∷ []) rules new.workings.steps) → IsAdded rules record { atoms = u; engine = g; given = n; refuted = r } d record { atoms = u; engine = new; given = m; refuted = not fine }
added-grown u rules g f new n m r fine d t e copy tend found stopped = record {
  atoms = refl;
  closure = λ base h. record {
    found = λ q. found (from_not_false fine q) base h.given (copy base (h.found t));
    waits = λ q. tend (from_not_false fine q);
    given = (let l = length-append base (d ∷ []) in let k = h.given in omega arith);
    refuted = λ q. stopped (from_not_true fine q) base h.given (copy base (h.found t));
  };
}

pub grown-is : {rules : List RuleInst} {j : Found} {base : List Diff} → IsGrown rules j base → IsClosure j base rules
grown-is (none k h) = h
grown-is (grows j k base d g a) = a.closure base (grown-is g)

-- what a log gives is what the check of its steps gives
outcome-log : {u : List Atom} {base : List Diff} {rules : List RuleInst} {steps : List Step} {ds : List Diff} → IsLog u base rules steps ds → (rest : List Step) → outcome u base rules [] (steps ++ rest) ≡ outcome u base rules ds rest
outcome-log empty rest = refl
outcome-log {u} {base} {rules} (more steps ds s d l c) rest =
    let same : (steps ++ s ∷ []) ++ rest ≡ steps ++ s ∷ rest = simp append_assoc in
    rw same (outcome-log l (s ∷ rest) ∙ rw c refl)

last-is : (ds : List Diff) (d : Diff) → last_of (ds ++ d ∷ []) ≡ Ok d
last-is ds d =
    let n = length-append ds (d ∷ []) in
    rw (get-last ds d (length (ds ++ d ∷ []) - 1) (omega arith)) refl

pub log-shows : (u : List Atom) (base : List Diff) (rules : List RuleInst) (steps : List Step) (ds : List Diff) (d : Diff) → IsLog u base rules steps (ds ++ d ∷ []) → outcome u base rules [] steps ≡ Ok d
log-shows u base rules steps ds d l =
    let o : outcome u base rules [] (steps ++ []) ≡ outcome u base rules (ds ++ d ∷ []) [] = outcome-log l [] in
    subst (λ (s : List Step). outcome u base rules [] s ≡ Ok d) (append-nil steps) (o ∙ last-is ds d)

pub if-ok-two : {X E : Type 0} (r : Result X E) (P Q R : X → Type 0) → IfOk r P → IfOk r Q → ((x : X) → P x → Q x → R x) → IfOk r R
if-ok-two (Ok x) P Q R p q f = f x p q
if-ok-two (Err e) P Q R p q f = tt

-- the certificate of a bound: all steps that are kept, those of its way, and the constraint that was asked
pub proof-shows : (u : List Atom) (base : List Diff) (rules : List RuleInst) (edges : List Edge) (old one new : List Step) (k x y : ℕ) (z c : ℤ) → Logged u base rules old edges → Emitted u edges old one k (diff_at u x y z) → z ≤ℤ c → new ≡ one ++ Weaken k c ∷ [] → outcome u base rules [] new ≡ Ok (diff_at u x y c)
proof-shows u base rules edges old one new k x y z c g f h en =
    let r = f.each base rules g.0 g.1 g.2 in
    let ds : List Diff = g.0 ++ r.0 in
    let got : slice_get ds k ≡ Some (diff_at u x y z) = r.2 in
    let step : conclusion u base rules ds (Weaken k c) ≡ Some (diff_at u x y c) = rw got (weaken-given (atom_at u x) (atom_at u y) z c h) in
    log-shows u base rules new ds (diff_at u x y c) (rw en (more one ds (Weaken k c) (diff_at u x y c) r.1 step))

module _ (k : Found) (base : List Diff) (rules : List RuleInst) (h : IsClosure k base rules) where
  -- it is contradictory exactly where it is refuted
  pub refuted-is : IsContradictory k.atoms base rules → k.refuted ≡ true
  refuted-is d = elim (test_is k.refuted) [
    | inl e ↦ e
    | inr e ↦ absurd ((h.found e).exact.consistent d)
  ]

  pub not-refuted : (IsContradictory k.atoms base rules → ⊥) → k.refuted ≡ false
  not-refuted n = elim (test_is k.refuted) [
    | inl e ↦ absurd (n (h.refuted e).contradictory)
    | inr e ↦ e
  ]

  module _ (a b : Atom) where
    pub none-derivable : NotBetween k a b → k.refuted ≡ false → (c : ℤ) → Derivable k.atoms base rules a b c → ⊥
    none-derivable n e c d = let l = (h.found e).exact.least a b c d in n e l.0 l.1 l.2

    pub bound-derivable : (p : Between) → IsBetween k a b p → Derivable k.atoms base rules a b p.bound
    bound-derivable p q =
        let s : Derivable k.atoms base rules (atom_at k.atoms (place_in k.atoms a)) (atom_at k.atoms (place_in k.atoms b)) (bounds k.engine.workings (place_in k.atoms a) (place_in k.atoms b)) = (h.found q.fine).exact.sound (place_in k.atoms a) (place_in k.atoms b) q.x_in q.y_in (subst (λ (z : ℤ). z <ℤ far) q.bound q.known) in
        let t : Derivable k.atoms base rules (atom_at k.atoms (place_in k.atoms a)) (atom_at k.atoms (place_in k.atoms b)) p.bound = subst (λ (z : ℤ). Derivable k.atoms base rules (atom_at k.atoms (place_in k.atoms a)) (atom_at k.atoms (place_in k.atoms b)) z) (sym q.bound) s in
        let v : Derivable k.atoms base rules a (atom_at k.atoms (place_in k.atoms b)) p.bound = subst (λ (x : Atom). Derivable k.atoms base rules x (atom_at k.atoms (place_in k.atoms b)) p.bound) (place-is k.atoms a q.x_in) t in
        subst (λ (y : Atom). Derivable k.atoms base rules a y p.bound) (place-is k.atoms b q.y_in) v

    pub bound-least : (p : Between) → IsBetween k a b p → (e : ℤ) → Derivable k.atoms base rules a b e → p.bound ≤ℤ e
    bound-least p q e d = let l = (h.found q.fine).exact.least a b e d in subst (λ (z : ℤ). z ≤ℤ e) (sym q.bound) l.3

    pub bound-is : (p : Between) → IsBetween k a b p → IsLeast k.atoms base rules a b p.bound
    bound-is p q = record { derivable = bound-derivable p q; least = bound-least p q }

    pub certified : (p : Between) (c : ℤ) (one new : List Step) (i : ℕ) → IsBetween k a b p → p.bound ≤ℤ c → Emitted k.atoms k.engine.workings.table.edges.items k.engine.workings.steps one i (diff_at k.atoms (place_in k.atoms a) (place_in k.atoms b) (bounds k.engine.workings (place_in k.atoms a) (place_in k.atoms b))) → new ≡ one ++ Weaken i c ∷ [] → Derivable k.atoms base rules a b c × Shows k.atoms base rules new a b c
    certified p c one new i q l f en =
        let low : bounds k.engine.workings (place_in k.atoms a) (place_in k.atoms b) ≤ℤ c = subst (λ (z : ℤ). z ≤ℤ c) q.bound l in
        let o = proof-shows k.atoms base rules k.engine.workings.table.edges.items k.engine.workings.steps one new i (place_in k.atoms a) (place_in k.atoms b) (bounds k.engine.workings (place_in k.atoms a) (place_in k.atoms b)) c (h.found q.fine).logged f low en in
        let same : diff_at k.atoms (place_in k.atoms a) (place_in k.atoms b) c ≡ record { a = a; b = b; c = c } = rw (place-is k.atoms a q.x_in, place-is k.atoms b q.y_in) refl in
        (weaker a b p.bound c (bound-derivable p q) l, subst (λ (d : Diff). outcome k.atoms base rules [] new ≡ Ok d) same o)

  pub refutes : k.refuted ≡ true → IsContradictory k.atoms base rules × ShowsContradiction k.atoms base rules k.engine.workings.steps
  refutes e =
      let r = h.refuted e in
      let s = r.shown in
      (r.contradictory, (s.0, log-shows k.atoms base rules k.engine.workings.steps s.1 record { a = s.0; b = s.0; c = negsuc 0 } s.2))
