-- Constraints between atoms in a table of bounds between places.
use Rattle.std.proofs.Common.{ap, take, drop, ℕ, ℤ, pos, negsuc, zero, suc, ◌<◌, ◌≤◌, ◌+◌, ◌^◌, ◌≡◌, inl, inr, arith, refl, List, [], ◌∷◌, length, slice_index_or, slice_get, subst, sym, ◌∙◌, Some, unsigned_abs}
use Rattle.std.specs.Prelude.{◌+ℤ◌, ◌≤ℤ◌, Result, Ok, Err, IfOk}
use Rattle.std.specs.Int.Signed.{◌<ℤ◌}
use Rattle.std.proofs.lemmas.Int.{ints}
use Rattle.std.proofs.lemmas.List.{take_more, take-append-drop}
use Rattle.std.proofs.Math.Seq.{take-length}
use Rattle.loop_core.specs.declared.nest.Atom.{Atom}
use Rattle.uf_constraints.specs.declared.system.Diff.{Diff}
use Rattle.index_props.specs.declared.rule.RuleInst.{RuleInst}
use Rattle.index_props.specs.Derivable.{Derivable, IsContradictory}
use Rattle.index_props.specs.Derivable.Derivable.{joined, weaker}
use Rattle.bound_ways.specs.Exact.{bound_of, Holds, IsLower, IsSound}
use Rattle.bound_ways.specs.Over.{IsOver, AreOver}
use Rattle.bound_ways.specs.Places.{place_in, atom_at, diff_at}
use Rattle.bound_table.specs.Rows.{far, Within, Adds, Sums}
use Rattle.bound_ways.proofs.Atoms.{place-in, place-is}
use Rattle.std.specs.List.{Contains}
use Rattle.std.proofs.lemmas.List.Elements.{Contains-push_cases, Contains-append_left}
use Rattle.std.proofs.lemmas.Option.{slice_get_within, get_or_from_slice_get}

pub got : {X : Type 0} (xs : List X) (i : ℕ) (d : X) → i < length xs → d ≡ slice_index_or xs i d → slice_get xs i ≡ Some d
got [] i d l e = absurd (omega arith)
got (x ∷ xs) zero d l e = ap Some (sym e)
got (x ∷ xs) (suc i) d l e = got xs i d (omega arith) e

pub got-is : {X : Type 0} (xs : List X) (i : ℕ) (d r : X) → d ≡ slice_index_or xs i d → slice_get xs i ≡ Some r → d ≡ r
got-is xs i d r e h = e ∙ get_or_from_slice_get xs i r d h

pub contains-got : {X : Type 0} (xs : List X) (k : ℕ) (x : X) → slice_get xs k ≡ Some x → Contains xs x
contains-got xs k x h = (k, slice_get_within xs k x h, get_or_from_slice_get xs k x x h)

pub Contains-take : {X : Type 0} (xs : List X) (i : ℕ) (x : X) → Contains (take i xs) x → Contains xs x
Contains-take xs i x h = subst (λ l. Contains l x) (take-append-drop i xs) (Contains-append_left (take i xs) (drop i xs) x h)

pub small : (c : ℤ) → unsigned_abs c ≤ 2 ^ 23 → Within 8388608 c
small c h = record { high = omega (arith, ints); low = omega (arith, ints) }

pub lower-refl : (m : ℕ) (T : ℕ → ℕ → ℤ) → IsLower m T T
lower-refl m T x y lx ly = omega (arith, ints)

pub lower-trans : (m : ℕ) (T U V : ℕ → ℕ → ℤ) → IsLower m T U → IsLower m U V → IsLower m T V
lower-trans m T U V h i x y lx ly = let j = h x y lx ly in let k = i x y lx ly in omega (arith, ints)

pub Adds-holds : (m : ℕ) (T : ℕ → ℕ → ℤ) (a b : ℕ) (c : ℤ) (U : ℕ → ℕ → ℤ) → a < m → b < m → Sums m T → Adds m T a b c U → U a b ≤ℤ c
Adds-holds m T a b c U la lb t u =
    let e : T a a ≡ pos 0 = t.itself a la in
    let f : T b b ≡ pos 0 = t.itself b lb in
    let h = u.through a b la lb (omega (arith, ints)) (omega (arith, ints)) in
    omega (arith, ints)

pub Holds-lower : (u : List Atom) (T U : ℕ → ℕ → ℤ) (ds : List Diff) → IsLower (length u) T U → AreOver u ds → Holds u T ds → Holds u U ds
Holds-lower u T U ds l o h d i =
    let j = h d i in
    let k = l (place_in u d.a) (place_in u d.b) (place-in u d.a (o d i).left) (place-in u d.b (o d i).right) in
    omega (arith, ints)

pub over-item : (u : List Atom) (ds : List Diff) (i : ℕ) (d : Diff) → AreOver u ds → i < length ds → d ≡ slice_index_or ds i d → IsOver u d
over-item u ds i d o l e = o d (i, l, sym e)

module _ (u : List Atom) (d : Diff) (o : IsOver u d) where
  pub a_in : place_in u d.a < length u
  a_in = place-in u d.a o.left

  pub b_in : place_in u d.b < length u
  b_in = place-in u d.b o.right

  pub diff-at : diff_at u (place_in u d.a) (place_in u d.b) d.c ≡ d
  diff-at = rw (place-is u d.a a_in, place-is u d.b b_in) refl

  placed : (base : List Diff) (rules : List RuleInst) → Derivable u base rules d.a d.b d.c → Derivable u base rules (atom_at u (place_in u d.a)) (atom_at u (place_in u d.b)) d.c
  placed base rules h = rw (place-is u d.a a_in, place-is u d.b b_in) h

  pub Adds-sound : (T U : ℕ → ℕ → ℤ) (base : List Diff) (rules : List RuleInst) → Adds (length u) T (place_in u d.a) (place_in u d.b) d.c U → Derivable u base rules d.a d.b d.c → IsSound u base rules T → IsSound u base rules U
  Adds-sound T U base rules w h s x y lx ly f = elim (w.cases x y lx ly) [
    | inl e ↦ rw e (s x y lx ly (rw (← e) f))
    | inr p ↦ rw p.2 (joined (atom_at u x) (atom_at u (place_in u d.b)) (atom_at u y) (T x (place_in u d.a) +ℤ d.c) (T (place_in u d.b) y)
        (joined (atom_at u x) (atom_at u (place_in u d.a)) (atom_at u (place_in u d.b)) (T x (place_in u d.a)) d.c (s x (place_in u d.a) lx a_in p.0) (placed base rules h))
        (s (place_in u d.b) y b_in ly p.1))
  ]

  pub contradicts : (T : ℕ → ℕ → ℤ) (base : List Diff) (rules : List RuleInst) → T (place_in u d.b) (place_in u d.a) <ℤ far → (T (place_in u d.b) (place_in u d.a) +ℤ d.c) <ℤ pos 0 → Derivable u base rules d.a d.b d.c → IsSound u base rules T → IsContradictory u base rules
  contradicts T base rules f low h s =
      let b : Atom = atom_at u (place_in u d.b) in
      let a : Atom = atom_at u (place_in u d.a) in
      (b, weaker b b (T (place_in u d.b) (place_in u d.a) +ℤ d.c) (negsuc 0) (joined b a b (T (place_in u d.b) (place_in u d.a)) d.c (s (place_in u d.b) (place_in u d.a) b_in a_in f) (placed base rules h)) (omega (arith, ints)))

pub over-take : (u : List Atom) (ds : List Diff) (i : ℕ) → AreOver u ds → AreOver u (take i ds)
over-take u ds i o d h = o d (Contains-take ds i d h)

pub Holds-more : (u : List Atom) (T : ℕ → ℕ → ℤ) (ds : List Diff) (i : ℕ) (e : Diff) → i < length ds → Holds u T (take i ds) → bound_of u T e ≤ℤ e.c → e ≡ slice_index_or ds i e → Holds u T (take (i + 1) ds)
Holds-more u T ds i e lt h x is d p =
    elim (Contains-push_cases (take i ds) (slice_index_or ds i e) d (subst (λ (l : List Diff). Contains l d) (take_more ds i e lt) p)) [
      | inl q ↦ h d q
      | inr q ↦ subst (λ (d : Diff). bound_of u T d ≤ℤ d.c) (is ∙ q) x
    ]

pub Holds-all : (u : List Atom) (T : ℕ → ℕ → ℤ) (ds : List Diff) (i : ℕ) → i ≡ length ds → Holds u T (take i ds) → Holds u T ds
Holds-all u T ds i e h = subst (λ (l : List Diff). Holds u T l) (ap (λ (n : ℕ). take n ds) e ∙ take-length ds) h

pub Holds-none : (u : List Atom) (T : ℕ → ℕ → ℤ) (ds : List Diff) → Holds u T (take 0 ds)
Holds-none u T ds d h = absurd (let l = h.1 in omega arith)

pub if-ok-map : {X E : Type 0} (r : Result X E) (P R : X → Type 0) → IfOk r P → ((x : X) → P x → R x) → IfOk r R
if-ok-map (Ok x) P R p f = f x p
if-ok-map (Err e) P R p f = tt

pub premise-derivable : (u : List Atom) (base : List Diff) (rules : List RuleInst) (T : ℕ → ℕ → ℤ) (p : Diff) → IsOver u p → bound_of u T p ≤ℤ p.c → IsSound u base rules T → Derivable u base rules p.a p.b p.c
premise-derivable u base rules T p o h s =
    let w = o.small in
    let la = place-in u p.a o.left in
    let lb = place-in u p.b o.right in
    let d : Derivable u base rules (atom_at u (place_in u p.a)) (atom_at u (place_in u p.b)) (T (place_in u p.a) (place_in u p.b)) = s (place_in u p.a) (place_in u p.b) la lb (omega (arith, ints)) in
    let e : Derivable u base rules p.a p.b (T (place_in u p.a) (place_in u p.b)) = subst (λ (a : Atom). Derivable u base rules a p.b (T (place_in u p.a) (place_in u p.b))) (place-is u p.a la) (subst (λ (b : Atom). Derivable u base rules (atom_at u (place_in u p.a)) b (T (place_in u p.a) (place_in u p.b))) (place-is u p.b lb) d) in
    weaker p.a p.b (T (place_in u p.a) (place_in u p.b)) p.c e h
