-- Marks: which constraint tightened an entry last. From them the way of each entry can be read off.
use Rattle.std.proofs.Common.{ℕ, ℤ, pos, ◌<◌, ◌≤◌, ◌≡◌, inl, inr, arith}
use Rattle.std.specs.Prelude.{◌+ℤ◌, ◌≤ℤ◌}
use Rattle.std.specs.Int.Signed.{◌<ℤ◌}
use Rattle.std.proofs.lemmas.Int.{ints}
use Rattle.bound_table.specs.Rows.{far, Sums, Adds, Within}
use Rattle.bound_table.specs.Marks.{Via, Traced}
use Rattle.bound_table.proofs.Tight.{range, Sums-add}

-- N are the marks after constraint n
pub record Marks (m : ℕ) (T U : ℕ → ℕ → ℤ) (M N : ℕ → ℕ → ℕ) (n : ℕ) : Type 0 where
  pub fresh : (x y : ℕ) → x < m → y < m → M x y < n
  pub same : (x y : ℕ) → x < m → y < m → U x y ≡ T x y → N x y ≡ M x y
  pub new : (x y : ℕ) → x < m → y < m → U x y <ℤ T x y → N x y ≡ n

module _ (m : ℕ) (T U : ℕ → ℕ → ℤ) (M N : ℕ → ℕ → ℕ) (ea eb : ℕ → ℕ) (ec : ℕ → ℤ) (n : ℕ) (few : m ≤ 96) (t : Sums m T) (u : Adds m T (ea n) (eb n) (ec n) U) (la : ea n < m) (lb : eb n < m) (w : Within 8388608 (ec n)) (ok : T (eb n) (ea n) <ℤ far → pos 0 ≤ℤ (T (eb n) (ea n) +ℤ ec n)) (k : Marks m T U M N n) where
  grown : Sums m U
  grown = Sums-add m T (ea n) (eb n) (ec n) U few t u la lb w.high w.low ok

  -- an entry of a way that isn't lowered isn't lowered either
  kept_first : (x y : ℕ) (e : ℕ) → x < m → y < m → U x y ≡ T x y → Via m T M x y (ea e) (eb e) (ec e) e → U x (ea e) ≡ T x (ea e)
  kept_first x y e lx ly q v = elim (u.cases x (ea e) lx v.a_in) [
    | inl p ↦ p
    | inr p ↦ absurd (
        let lt = p.3 in let f = v.first in let s = v.second in let d = v.sum in let h = v.holds in let sm = v.small in
        let r1 = range m T few t (eb e) y v.b_in ly v.second in
        let ab : T (ea e) (eb e) <ℤ far = omega (arith, ints) in
        let r2 = range m T few t (ea e) (eb e) v.a_in v.b_in ab in
        let i = t.below (ea e) (eb e) y v.a_in v.b_in ly ab v.second in
        let l = u.lower (ea e) y v.a_in ly in
        let g = grown.below x (ea e) y lx v.a_in ly (omega (arith, ints)) (omega (arith, ints)) in
        omega (arith, ints))
  ]

  kept_second : (x y : ℕ) (e : ℕ) → x < m → y < m → U x y ≡ T x y → Via m T M x y (ea e) (eb e) (ec e) e → U (eb e) y ≡ T (eb e) y
  kept_second x y e lx ly q v = elim (u.cases (eb e) y v.b_in ly) [
    | inl p ↦ p
    | inr p ↦ absurd (
        let lt = p.3 in let f = v.first in let s = v.second in let d = v.sum in let h = v.holds in let sm = v.small in
        let r1 = range m T few t x (ea e) lx v.a_in v.first in
        let ab : T (ea e) (eb e) <ℤ far = omega (arith, ints) in
        let r2 = range m T few t (ea e) (eb e) v.a_in v.b_in ab in
        let i = t.below x (ea e) (eb e) lx v.a_in v.b_in v.first ab in
        let l = u.lower x (eb e) lx v.b_in in
        let g = grown.below x (eb e) y lx v.b_in ly (omega (arith, ints)) (omega (arith, ints)) in
        omega (arith, ints))
  ]

  -- the entries that the new constraint joins aren't lowered by it
  whole_first : (x : ℕ) → x < m → T x (ea n) <ℤ far → U x (ea n) ≡ T x (ea n)
  whole_first x lx h = elim (u.cases x (ea n) lx la) [
    | inl p ↦ p
    | inr p ↦ absurd (let lt = p.3 in let e = p.2 in let o = ok p.1 in omega (arith, ints))
  ]

  whole_second : (y : ℕ) → y < m → T (eb n) y <ℤ far → U (eb n) y ≡ T (eb n) y
  whole_second y ly h = elim (u.cases (eb n) y lb ly) [
    | inl p ↦ p
    | inr p ↦ absurd (let lt = p.3 in let e = p.2 in let o = ok p.0 in omega (arith, ints))
  ]

  edge_holds : U (ea n) (eb n) ≤ℤ ec n
  edge_holds =
      let e : T (ea n) (ea n) ≡ pos 0 = t.itself (ea n) la in
      let f : T (eb n) (eb n) ≡ pos 0 = t.itself (eb n) lb in
      let h = u.through (ea n) (eb n) la lb (omega (arith, ints)) (omega (arith, ints)) in
      omega (arith, ints)

  via_kept : (x y e : ℕ) → x < m → y < m → U x y ≡ T x y → Via m T M x y (ea e) (eb e) (ec e) e → Via m U N x y (ea e) (eb e) (ec e) e
  via_kept x y e lx ly q v =
      let f : U x (ea e) ≡ T x (ea e) = kept_first x y e lx ly q v in
      let s : U (eb e) y ≡ T (eb e) y = kept_second x y e lx ly q v in
      let vf = v.first in let vs = v.second in let vd = v.sum in let vb = v.before in let va = v.after in let vh = v.holds in
      let lo = u.lower (ea e) (eb e) v.a_in v.b_in in
      let mf = k.same x (ea e) lx v.a_in f in
      let ms = k.same (eb e) y v.b_in ly s in
      record {
        a_in = v.a_in;
        b_in = v.b_in;
        first = omega (arith, ints);
        second = omega (arith, ints);
        sum = rw (q, f, s) vd;
        before = omega arith;
        after = omega arith;
        holds = omega (arith, ints);
        small = v.small;
      }

  via_new : (x y : ℕ) → x < m → y < m → T x (ea n) <ℤ far → T (eb n) y <ℤ far → U x y ≡ T x (ea n) +ℤ ec n +ℤ T (eb n) y → Via m U N x y (ea n) (eb n) (ec n) n
  via_new x y lx ly o p d =
      let f : U x (ea n) ≡ T x (ea n) = whole_first x lx o in
      let s : U (eb n) y ≡ T (eb n) y = whole_second y ly p in
      let mf = k.same x (ea n) lx la f in
      let ms = k.same (eb n) y lb ly s in
      let ff = k.fresh x (ea n) lx la in
      let fs = k.fresh (eb n) y lb ly in
      record {
        a_in = la;
        b_in = lb;
        first = omega (arith, ints);
        second = omega (arith, ints);
        sum = rw (f, s) d;
        before = omega arith;
        after = omega arith;
        holds = edge_holds;
        small = w.high;
      }

  pub Traced-add : Traced m T M ea eb ec → Traced m U N ea eb ec
  Traced-add r x y lx ly h = elim (u.cases x y lx ly) [
    | inl q ↦ (
        let same : N x y ≡ M x y = k.same x y lx ly q in
        rw same (elim (r x y lx ly (omega (arith, ints))) [
          | inl z ↦ inl z
          | inr v ↦ inr (via_kept x y (M x y) lx ly q v)
        ]))
    | inr p ↦ (
        let new : N x y ≡ n = k.new x y lx ly p.3 in
        rw new (inr (via_new x y lx ly p.0 p.1 p.2)))
  ]
