-- Steps put at the end of a log.
use Rattle.std.proofs.Common.{ap, ℕ, ℤ, pos, negsuc, zero, suc, ◌<◌, ◌≤◌, ◌≡◌, inl, inr, arith, refl, List, [], ◌∷◌, ◌++◌, length, slice_index_or, slice_get, subst, sym, ◌∙◌, true, Some, append_assoc}
use Rattle.std.specs.Prelude.{◌+ℤ◌, ◌≤ℤ◌, int_le, Result, Ok, Err, IfOk, OnOk}
use Rattle.std.specs.Int.Signed.{◌<ℤ◌}
use Rattle.std.proofs.lemmas.Int.{ints}
use Rattle.std.proofs.lemmas.List.{length-append, get_or_default, append-nil}
use Rattle.loop_core.specs.declared.nest.Atom.{Atom}
use Rattle.uf_constraints.specs.declared.system.Diff.{Diff}
use Rattle.index_props.specs.declared.rule.RuleInst.{RuleInst}
use Rattle.index_props.specs.declared.certificate.Step.{Step}
use Rattle.index_props.specs.declared.certificate.Step.TheVariants.{Same, Sum, Weaken}
use Rattle.index_props.specs.Certificate.{conclusion, fits, same_of, sum_of, weakened}
use Rattle.bound_table.specs.declared.edge.Edge.{Edge}
use Rattle.bound_ways.specs.Places.{atom_at, diff_at}
use Rattle.bound_table.specs.Rows.{far, Sums}
use Rattle.bound_table.specs.Marks.{Via, Traced, mark_at, edge_at}
use Rattle.bound_ways.specs.Log.{IsLog, EdgesIn, Emitted, edge_diff, Refuting}
use Rattle.bound_ways.specs.Log.IsLog.{empty, more}
use Rattle.bound_ways.proofs.Atoms.{same-itself, listed-at}
use Rattle.bound_table.proofs.Tight.{range}

pub get-left : {X : Type 0} (xs ys : List X) (k : ℕ) (x : X) → slice_get xs k ≡ Some x → slice_get (xs ++ ys) k ≡ Some x
get-left [] ys k x h = absurd (cc)
get-left (y ∷ xs) ys zero x h = h
get-left (y ∷ xs) ys (suc k) x h = get-left xs ys k x h

pub get-last : {X : Type 0} (xs : List X) (x : X) (k : ℕ) → k ≡ length xs → slice_get (xs ++ x ∷ []) k ≡ Some x
get-last xs x k e = rw e (go xs x)
  where
    go : {X : Type 0} (xs : List X) (x : X) → slice_get (xs ++ x ∷ []) (length xs) ≡ Some x
    go [] x = refl
    go (y ∷ xs) x = go xs x

pub log-length : {u : List Atom} {base : List Diff} {rules : List RuleInst} {steps : List Step} {ds : List Diff} → IsLog u base rules steps ds → length ds ≡ length steps
log-length empty = refl
log-length (more steps ds s d l c) = let i = log-length l in let a = length-append ds (d ∷ []) in let b = length-append steps (s ∷ []) in omega arith

same-given : (u : List Atom) (x : ℕ) → x < length u → same_of u (atom_at u x) ≡ Some (diff_at u x x (pos 0))
same-given u x l = rw (listed-at u x l) refl

sum-given : (a b d : Atom) (p q : ℤ) → fits (p +ℤ q) ≡ true → sum_of record { a = a; b = b; c = p } record { a = b; b = d; c = q } ≡ Some record { a = a; b = d; c = p +ℤ q }
sum-given a b d p q f = rw (same-itself b) (rw f refl)

pub weaken-given : (a b : Atom) (z c : ℤ) → z ≤ℤ c → weakened c record { a = a; b = b; c = z } ≡ Some record { a = a; b = b; c = c }
weaken-given a b z c h = let t : int_le z c ≡ true = grind (arith, ints) in rw t refl

pub edges-left : (u : List Atom) (ds rest : List Diff) (edges : List Edge) → EdgesIn u ds edges → EdgesIn u (ds ++ rest) edges
edges-left u ds rest edges h e l g = get-left ds rest (edge_at edges e).step (edge_diff u edges e) (h e l g)

module _ (u : List Atom) (edges : List Edge) where
  pub emit-same : (old new : List Step) (k x : ℕ) → x < length u → new ≡ old ++ Same (atom_at u x) ∷ [] → k ≡ length old → Emitted u edges old new k (diff_at u x x (pos 0))
  emit-same old new k x lx en ek = record {
    each = λ base rules ds log ein.
        let n = log-length log in (
          diff_at u x x (pos 0) ∷ [],
          rw en (more old ds (Same (atom_at u x)) (diff_at u x x (pos 0)) log (same-given u x lx)),
          get-last ds (diff_at u x x (pos 0)) k (omega arith),
        );
  }

  pub emit-edge : (old : List Step) (e : ℕ) → 0 < e → e < length edges → Emitted u edges old old (edge_at edges e).step (edge_diff u edges e)
  emit-edge old e l g = record { each = λ base rules ds log ein. ([], rw append-nil log, rw append-nil (ein e l g)) }

  pub emit-join : (old one two new : List Step) (k1 k2 k x z y : ℕ) (p q : ℤ) → Emitted u edges old one k1 (diff_at u x z p) → Emitted u edges one two k2 (diff_at u z y q) → new ≡ two ++ Sum k1 k2 ∷ [] → k ≡ length two → fits (p +ℤ q) ≡ true → Emitted u edges old new k (diff_at u x y (p +ℤ q))
  emit-join old one two new k1 k2 k x z y p q f g en ek fit = record {
    each = λ base rules ds log ein.
        let r1 = f.each base rules ds log ein in
        let ds1 : List Diff = ds ++ r1.0 in
        let r2 = g.each base rules ds1 r1.1 (edges-left u ds r1.0 edges ein) in
        let ds2 : List Diff = ds1 ++ r2.0 in
        let d : Diff = diff_at u x y (p +ℤ q) in
        let get1 : slice_get ds2 k1 ≡ Some (diff_at u x z p) = get-left ds1 r2.0 k1 (diff_at u x z p) r1.2 in
        let get2 : slice_get ds2 k2 ≡ Some (diff_at u z y q) = r2.2 in
        let c : conclusion u base rules ds2 (Sum k1 k2) ≡ Some d = rw (get1, get2) (sum-given (atom_at u x) (atom_at u z) (atom_at u y) p q fit) in
        let log2 : IsLog u base rules new (ds2 ++ d ∷ []) = rw en (more two ds2 (Sum k1 k2) d r2.1 c) in
        let n = log-length r2.1 in
        let last : slice_get (ds2 ++ d ∷ []) k ≡ Some d = get-last ds2 d k (omega arith) in
        let same : ds ++ (r1.0 ++ (r2.0 ++ d ∷ [])) ≡ ds2 ++ d ∷ [] = simp append_assoc in
        (r1.0 ++ (r2.0 ++ d ∷ []), rw same log2, rw same last);
  }

  pub emit-weaken : (old one new : List Step) (k1 k x y : ℕ) (z c : ℤ) → Emitted u edges old one k1 (diff_at u x y z) → z ≤ℤ c → new ≡ one ++ Weaken k1 c ∷ [] → k ≡ length one → Emitted u edges old new k (diff_at u x y c)
  emit-weaken old one new k1 k x y z c f h en ek = record {
    each = λ base rules ds log ein.
        let r = f.each base rules ds log ein in
        let ds1 : List Diff = ds ++ r.0 in
        let d : Diff = diff_at u x y c in
        let got : slice_get ds1 k1 ≡ Some (diff_at u x y z) = r.2 in
        let given : conclusion u base rules ds1 (Weaken k1 c) ≡ Some d = rw got (weaken-given (atom_at u x) (atom_at u y) z c h) in
        let log1 : IsLog u base rules new (ds1 ++ d ∷ []) = rw en (more one ds1 (Weaken k1 c) d r.1 given) in
        let n = log-length r.1 in
        let last : slice_get (ds1 ++ d ∷ []) k ≡ Some d = get-last ds1 d k (omega arith) in
        let same : ds ++ (r.0 ++ d ∷ []) ≡ ds1 ++ d ∷ [] = simp append_assoc in
        (r.0 ++ d ∷ [], rw same log1, rw same last);
  }

  pub refuting : (old one two new : List Step) (edge : Edge) (k sum : ℕ) (q : ℤ) → Emitted u edges old one k (diff_at u edge.b edge.a q) → two ≡ one ++ Sum edge.step k ∷ [] → sum ≡ length one → new ≡ two ++ Weaken sum (negsuc 0) ∷ [] → (edge.c +ℤ q) ≤ℤ negsuc 0 → fits (edge.c +ℤ q) ≡ true → Refuting u edges old new edge
  refuting old one two new edge k sum q f e2 es en low fit base rules ds log ein got =
      let r = f.each base rules ds log ein in
      let ds1 : List Diff = ds ++ r.0 in
      let d : Diff = diff_at u edge.a edge.a (edge.c +ℤ q) in
      let last_one : Diff = diff_at u edge.a edge.a (negsuc 0) in
      let get1 : slice_get ds1 edge.step ≡ Some (diff_at u edge.a edge.b edge.c) = get-left ds r.0 edge.step (diff_at u edge.a edge.b edge.c) got in
      let get2 : slice_get ds1 k ≡ Some (diff_at u edge.b edge.a q) = r.2 in
      let c : conclusion u base rules ds1 (Sum edge.step k) ≡ Some d = rw (get1, get2) (sum-given (atom_at u edge.a) (atom_at u edge.b) (atom_at u edge.a) edge.c q fit) in
      let log2 : IsLog u base rules two (ds1 ++ d ∷ []) = rw e2 (more one ds1 (Sum edge.step k) d r.1 c) in
      let n = log-length r.1 in
      let get3 : slice_get (ds1 ++ d ∷ []) sum ≡ Some d = get-last ds1 d sum (omega arith) in
      let c3 : conclusion u base rules (ds1 ++ d ∷ []) (Weaken sum (negsuc 0)) ≡ Some last_one = rw get3 (weaken-given (atom_at u edge.a) (atom_at u edge.a) (edge.c +ℤ q) (negsuc 0) low) in
      (atom_at u edge.a, ds1 ++ d ∷ [], rw en (more two (ds1 ++ d ∷ []) (Weaken sum (negsuc 0)) last_one log2 c3))

pub fits-small : (z : ℤ) → z ≤ℤ pos 8589934592 → pos 0 ≤ℤ (z +ℤ pos 8589934592) → fits z ≡ true
fits-small z h l = grind (arith, ints)

pub mark-read : (marks : List (List ℕ)) (r : List ℕ) (x y g : ℕ) → x < length marks → r ≡ slice_index_or marks x r → g ≡ slice_index_or r y 0 → mark_at marks x y ≡ g
mark-read marks r x y g lx e h = ap (λ (l : List ℕ). slice_index_or l y 0) (sym (e ∙ get_or_default marks x r [] lx)) ∙ sym h

pub traced-same : (m : ℕ) (T : ℕ → ℕ → ℤ) (M : ℕ → ℕ → ℕ) (ea eb : ℕ → ℕ) (ec : ℕ → ℤ) (x y g : ℕ) → Traced m T M ea eb ec → x < m → y < m → T x y <ℤ far → M x y ≡ g → g ≡ 0 → x ≡ y
traced-same m T M ea eb ec x y g t lx ly h e z = elim (t x y lx ly h) [
  | inl p ↦ p.0
  | inr v ↦ absurd (let b = v.before in omega arith)
]

pub traced-via : (m : ℕ) (T : ℕ → ℕ → ℤ) (M : ℕ → ℕ → ℕ) (ea eb : ℕ → ℕ) (ec : ℕ → ℤ) (x y g : ℕ) → Traced m T M ea eb ec → x < m → y < m → T x y <ℤ far → M x y ≡ g → (g ≡ 0 → ⊥) → Via m T M x y (ea g) (eb g) (ec g) g
traced-via m T M ea eb ec x y g t lx ly h e z = subst (λ (g : ℕ). Via m T M x y (ea g) (eb g) (ec g) g) e (elim (t x y lx ly h) [
  | inl p ↦ absurd (z (sym e ∙ p.1))
  | inr v ↦ v
])

diff-is : (u : List Atom) (x a y b : ℕ) (z c : ℤ) → x ≡ a → y ≡ b → z ≡ c → diff_at u x y z ≡ diff_at u a b c
diff-is u x a y b z c p q r = rw (p, q, r) refl

-- the ways of a bound over its edge
module _ (u : List Atom) (edges : List Edge) (m : ℕ) (T : ℕ → ℕ → ℤ) (M : ℕ → ℕ → ℕ) (x y g : ℕ) (e : Edge) (few : m ≤ 96) (t : Sums m T) (lx : x < m) (ly : y < m) (v : Via m T M x y e.a e.b e.c g) (is : e ≡ edge_at edges g) (gl : g < length edges) where
  positive : 0 < g
  positive = let b = v.before in omega arith

  c_low : pos 0 ≤ℤ (e.c +ℤ pos 1073741824)
  c_low = let h = v.holds in let s = v.small in let ab : T e.a e.b <ℤ far = omega (arith, ints) in let r = range m T few t e.a e.b v.a_in v.b_in ab in omega (arith, ints)

  fits-first : fits (T x e.a +ℤ e.c) ≡ true
  fits-first = let l = c_low in let s = v.small in let r = range m T few t x e.a lx v.a_in v.first in fits-small (T x e.a +ℤ e.c) (omega (arith, ints)) (omega (arith, ints))

  fits-second : fits (e.c +ℤ T e.b y) ≡ true
  fits-second = let l = c_low in let s = v.small in let q = range m T few t e.b y v.b_in ly v.second in fits-small (e.c +ℤ T e.b y) (omega (arith, ints)) (omega (arith, ints))

  fits-both : fits (T x e.a +ℤ e.c +ℤ T e.b y) ≡ true
  fits-both = let l = c_low in let s = v.small in let r = range m T few t x e.a lx v.a_in v.first in let q = range m T few t e.b y v.b_in ly v.second in fits-small (T x e.a +ℤ e.c +ℤ T e.b y) (omega (arith, ints)) (omega (arith, ints))

  from_start : e.a ≡ x → T x e.a ≡ pos 0
  from_start q = ap (λ (k : ℕ). T x k) q ∙ t.itself x lx

  from_end : e.b ≡ y → T e.b y ≡ pos 0
  from_end q = ap (λ (k : ℕ). T k y) q ∙ t.itself y ly

  emit-this : (old : List Step) → Emitted u edges old old e.step (diff_at u e.a e.b e.c)
  emit-this old = subst (λ (e : Edge). Emitted u edges old old e.step (diff_at u e.a e.b e.c)) (sym is) (emit-edge u edges old g positive gl)

  pub way-edge : (old : List Step) → e.a ≡ x → e.b ≡ y → Emitted u edges old old e.step (diff_at u x y (T x y))
  way-edge old ea eb =
      let s = v.sum in let p = from_start ea in let q = from_end eb in
      subst (λ (d : Diff). Emitted u edges old old e.step d) (diff-is u e.a x e.b y e.c (T x y) ea eb (omega (arith, ints))) (emit-this old)

  pub way-second : (old one new : List Step) (k2 k : ℕ) → e.a ≡ x → Emitted u edges old one k2 (diff_at u e.b y (T e.b y)) → new ≡ one ++ Sum e.step k2 ∷ [] → k ≡ length one → Emitted u edges old new k (diff_at u x y (T x y))
  way-second old one new k2 k ea f en ek =
      let s = v.sum in let p = from_start ea in
      subst (λ (d : Diff). Emitted u edges old new k d) (diff-is u e.a x y y (e.c +ℤ T e.b y) (T x y) ea refl (omega (arith, ints)))
      (emit-join u edges old old one new e.step k2 k e.a e.b y e.c (T e.b y) (emit-this old) f en ek fits-second)

  pub way-first : (old one new : List Step) (k1 k : ℕ) → Emitted u edges old one k1 (diff_at u x e.a (T x e.a)) → new ≡ one ++ Sum k1 e.step ∷ [] → k ≡ length one → Emitted u edges old new k (diff_at u x e.b (T x e.a +ℤ e.c))
  way-first old one new k1 k f en ek =
      emit-join u edges old one one new k1 e.step k x e.a e.b (T x e.a) e.c f (emit-this one) en ek fits-first

  pub way-ends : (old new : List Step) (k : ℕ) → e.b ≡ y → Emitted u edges old new k (diff_at u x e.b (T x e.a +ℤ e.c)) → Emitted u edges old new k (diff_at u x y (T x y))
  way-ends old new k eb f =
      let s = v.sum in let q = from_end eb in
      subst (λ (d : Diff). Emitted u edges old new k d) (diff-is u x x e.b y (T x e.a +ℤ e.c) (T x y) refl eb (omega (arith, ints))) f

  pub way-both : (old one two new : List Step) (k1 k2 k : ℕ) → Emitted u edges old one k1 (diff_at u x e.b (T x e.a +ℤ e.c)) → Emitted u edges one two k2 (diff_at u e.b y (T e.b y)) → new ≡ two ++ Sum k1 k2 ∷ [] → k ≡ length two → Emitted u edges old new k (diff_at u x y (T x y))
  way-both old one two new k1 k2 k f h en ek =
      subst (λ (d : Diff). Emitted u edges old new k d) (diff-is u x x y y (T x e.a +ℤ e.c +ℤ T e.b y) (T x y) refl refl (sym v.sum))
      (emit-join u edges old one two new k1 k2 k x e.b y (T x e.a +ℤ e.c) (T e.b y) f h en ek fits-both)

-- one fact for each outcome, from two
pub if-ok : {X E : Type 0} (r : Result X E) (P R : X → Type 0) (Q : Type 0) → IfOk r P → OnOk r Q → ((x : X) → P x → Q → R x) → IfOk r R
if-ok (Ok x) P R Q p q f = f x p q
if-ok (Err e) P R Q p q f = tt

pub emit-itself : (u : List Atom) (edges : List Edge) (old new : List Step) (k x y : ℕ) (z : ℤ) → x < length u → new ≡ old ++ Same (atom_at u x) ∷ [] → k ≡ length old → x ≡ y → z ≡ pos 0 → Emitted u edges old new k (diff_at u x y z)
emit-itself u edges old new k x y z lx en ek exy ez =
    subst (λ (d : Diff). Emitted u edges old new k d) (diff-is u x x x y (pos 0) z refl exy (sym ez)) (emit-same u edges old new k x lx en ek)
