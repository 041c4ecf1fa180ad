-- A table that is closed under sums stays so when a constraint is added.
use Rattle.std.proofs.Common.{ℕ, ℤ, pos, ◌<◌, ◌≤◌, ◌+◌, ◌*◌, ◌≡◌, inl, inr, arith, true, ◌&&◌}
use Rattle.std.specs.Prelude.{◌+ℤ◌, ◌≤ℤ◌}
use Rattle.std.specs.Int.Signed.{◌<ℤ◌, lt_z, le_z}
use Rattle.std.proofs.lemmas.Int.{ints}
use Rattle.bound_table.specs.Rows.{far, count, on_way, Sums, Range, Adds}
use Rattle.bound_table.proofs.Count.{count-le, count-more, count-two}

pub record OnWay (T : ℕ → ℕ → ℤ) (x y v : ℕ) : Type 0 where
  pub from : T x v <ℤ far
  pub to : T v y <ℤ far
  pub sum : (T x v +ℤ T v y) ≤ℤ T x y

way_out : (p q s t f : ℤ) → (lt_z p f && (lt_z q f && le_z s t)) ≡ true → (p <ℤ f) × (q <ℤ f) × (s ≤ℤ t)
way_out p q s t f h = grind (arith, ints)

way_in : (p q s t f : ℤ) → p <ℤ f → q <ℤ f → s ≤ℤ t → (lt_z p f && (lt_z q f && le_z s t)) ≡ true
way_in p q s t f h i j = grind (arith, ints)

pub OnWay-out : (T : ℕ → ℕ → ℤ) (x y v : ℕ) → on_way T x y v ≡ true → OnWay T x y v
OnWay-out T x y v h = let w = way_out (T x v) (T v y) (T x v +ℤ T v y) (T x y) far h in record { from = w.0; to = w.1; sum = w.2 }

pub OnWay-in : (T : ℕ → ℕ → ℤ) (x y v : ℕ) → OnWay T x y v → on_way T x y v ≡ true
OnWay-in T x y v h = way_in (T x v) (T v y) (T x v +ℤ T v y) (T x y) far h.from h.to h.sum

pub range : (m : ℕ) (T : ℕ → ℕ → ℤ) → m ≤ 96 → Sums m T → (x y : ℕ) → x < m → y < m → T x y <ℤ far → Range (T x y)
range m T few t x y lx ly h =
    let i = count-le (on_way T x y) m in
    let j = t.high x y lx ly h in
    let k = t.low x y lx ly h in
    record { high = omega (arith, ints); low = omega (arith, ints) }

module _ (m : ℕ) (T : ℕ → ℕ → ℤ) (a b : ℕ) (c : ℤ) (U : ℕ → ℕ → ℤ) (few : m ≤ 96) (t : Sums m T) (u : Adds m T a b c U) (la : a < m) (lb : b < m) (ch : c ≤ℤ pos 8388608) (cl : pos 0 ≤ℤ (c +ℤ pos 8388608)) (ok : T b a <ℤ far → pos 0 ≤ℤ (T b a +ℤ c)) where
  itself-add : (x : ℕ) → x < m → U x x ≡ pos 0
  itself-add x lx =
      let f : T x x ≡ pos 0 = t.itself x lx in
      elim (u.cases x x lx lx) [
        | inl e ↦ omega (arith, ints)
        | inr p ↦
            let g : T b a ≤ℤ (T b x +ℤ T x a) = t.below b x a lb lx la p.1 p.0 in
            let r = range m T few t b x lb lx p.1 in
            let s = range m T few t x a lx la p.0 in
            let n : pos 0 ≤ℤ (T b a +ℤ c) = ok (omega (arith, ints)) in
            absurd (omega (arith, ints))
      ]

  below-add : (x z y : ℕ) → x < m → z < m → y < m → U x z <ℤ far → U z y <ℤ far → U x y ≤ℤ (U x z +ℤ U z y)
  below-add x z y lx lz ly h i =
      elim (u.cases x z lx lz) [
        | inl e ↦ elim (u.cases z y lz ly) [
          | inl f ↦
              let g = t.below x z y lx lz ly (omega (arith, ints)) (omega (arith, ints)) in
              let j = u.lower x y lx ly in
              omega (arith, ints)
          | inr q ↦
              let xz : T x z <ℤ far = omega (arith, ints) in
              let g = t.below x z a lx lz la xz q.0 in
              let r = range m T few t x z lx lz xz in
              let s = range m T few t z a lz la q.0 in
              let j = u.through x y lx ly (omega (arith, ints)) q.1 in
              omega (arith, ints)
        ]
        | inr p ↦ elim (u.cases z y lz ly) [
          | inl f ↦
              let zy : T z y <ℤ far = omega (arith, ints) in
              let g = t.below b z y lb lz ly p.1 zy in
              let r = range m T few t b z lb lz p.1 in
              let s = range m T few t z y lz ly zy in
              let j = u.through x y lx ly p.0 (omega (arith, ints)) in
              omega (arith, ints)
          | inr q ↦
              let g = t.below b z a lb lz la p.1 q.0 in
              let r = range m T few t b z lb lz p.1 in
              let s = range m T few t z a lz la q.0 in
              let n : pos 0 ≤ℤ (T b a +ℤ c) = ok (omega (arith, ints)) in
              let j = u.through x y lx ly p.0 q.1 in
              omega (arith, ints)
        ]
      ]

  kept-way : (x y v : ℕ) → x < m → y < m → v < m → U x y ≡ T x y → OnWay T x y v → OnWay U x y v
  kept-way x y v lx ly lv e w =
      let i = u.lower x v lx lv in
      let j = u.lower v y lv ly in
      let f = w.from in let g = w.to in let h = w.sum in
      record { from = omega (arith, ints); to = omega (arith, ints); sum = omega (arith, ints) }

  first-way : (x y v : ℕ) → x < m → y < m → v < m → T b y <ℤ far → T x a <ℤ far → U x y ≡ T x a +ℤ c +ℤ T b y → OnWay T x a v → OnWay U x y v
  first-way x y v lx ly lv p o e w =
      let f = w.from in let g = w.to in let h = w.sum in
      let i = u.lower x v lx lv in
      let j = u.through v y lv ly g p in
      let r = range m T few t v a lv la g in
      let s = range m T few t b y lb ly p in
      record { from = omega (arith, ints); to = omega (arith, ints); sum = omega (arith, ints) }

  second-way : (x y v : ℕ) → x < m → y < m → v < m → T b y <ℤ far → T x a <ℤ far → U x y ≡ T x a +ℤ c +ℤ T b y → OnWay T b y v → OnWay U x y v
  second-way x y v lx ly lv p o e w =
      let f = w.from in let g = w.to in let h = w.sum in
      let i = u.lower v y lv ly in
      let j = u.through x v lx lv o f in
      let r = range m T few t b v lb lv f in
      let s = range m T few t x a lx la o in
      record { from = omega (arith, ints); to = omega (arith, ints); sum = omega (arith, ints) }

  apart : (x y v : ℕ) → x < m → y < m → v < m → U x y ≡ T x a +ℤ c +ℤ T b y → U x y <ℤ T x y → OnWay T x a v → OnWay T b y v → ⊥
  apart x y v lx ly lv e lt w z =
      let f = w.from in let g = w.to in let h = w.sum in
      let f' = z.from in let g' = z.to in let h' = z.sum in
      let i = t.below x v y lx lv ly f g' in
      let j = t.below b v a lb lv la f' g in
      let r = range m T few t v a lv la g in
      let s = range m T few t b v lb lv f' in
      let n : pos 0 ≤ℤ (T b a +ℤ c) = ok (omega (arith, ints)) in
      omega (arith, ints)

  -- the least ways to a and from b together are on the new one
  ways : (x y : ℕ) → x < m → y < m → T x a <ℤ far → T b y <ℤ far → U x y ≡ T x a +ℤ c +ℤ T b y → U x y <ℤ T x y → count (on_way T x a) m + count (on_way T b y) m ≤ count (on_way U x y) m
  ways x y lx ly o p e lt =
      count-two (on_way T x a) (on_way T b y) (on_way U x y) m
      (λ v lv w. OnWay-in U x y v (first-way x y v lx ly lv p o e (OnWay-out T x a v w)))
      (λ v lv w. OnWay-in U x y v (second-way x y v lx ly lv p o e (OnWay-out T b y v w)))
      (λ v lv w z. apart x y v lx ly lv e lt (OnWay-out T x a v w) (OnWay-out T b y v z))

  ways-kept : (x y : ℕ) → x < m → y < m → U x y ≡ T x y → count (on_way T x y) m ≤ count (on_way U x y) m
  ways-kept x y lx ly e =
      count-more (on_way T x y) (on_way U x y) m (λ v lv w. OnWay-in U x y v (kept-way x y v lx ly lv e (OnWay-out T x y v w)))

  high-add : (x y : ℕ) → x < m → y < m → U x y <ℤ far → (U x y +ℤ pos 8388608) ≤ℤ pos (8388608 * count (on_way U x y) m)
  high-add x y lx ly f = elim (u.cases x y lx ly) [
    | inl e ↦
        let w = ways-kept x y lx ly e in
        let h = t.high x y lx ly (omega (arith, ints)) in
        omega (arith, ints)
    | inr p ↦
        let w = ways x y lx ly p.0 p.1 p.2 p.3 in
        let h = t.high x a lx la p.0 in
        let i = t.high b y lb ly p.1 in
        let e = p.2 in
        omega (arith, ints)
  ]

  low-add : (x y : ℕ) → x < m → y < m → U x y <ℤ far → pos 8388608 ≤ℤ (U x y +ℤ pos (8388608 * count (on_way U x y) m))
  low-add x y lx ly f = elim (u.cases x y lx ly) [
    | inl e ↦
        let w = ways-kept x y lx ly e in
        let h = t.low x y lx ly (omega (arith, ints)) in
        omega (arith, ints)
    | inr p ↦
        let w = ways x y lx ly p.0 p.1 p.2 p.3 in
        let h = t.low x a lx la p.0 in
        let i = t.low b y lb ly p.1 in
        let e = p.2 in
        omega (arith, ints)
  ]

  pub Sums-add : Sums m U
  Sums-add = record { itself = itself-add; below = below-add; high = high-add; low = low-add }
