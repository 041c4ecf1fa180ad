-- How each bound of a table came about.
use Rattle.std.specs.Prelude.{ℕ, ℤ, pos, ◌+ℤ◌, ◌≤ℤ◌, ◌<◌, ◌≡◌, ◌⊎◌, List, [], length, slice_index_or}
use Rattle.std.specs.Int.Signed.{◌<ℤ◌}
use Rattle.bound_table.specs.declared.edge.Edge.{Edge}
use Rattle.bound_table.specs.Rows.{far, entry, IsTable, IsMarks}

-- the edge with number e was added when the table's marks were all below e, and the bound goes by way of it
pub record Via (m : ℕ) (T : ℕ → ℕ → ℤ) (M : ℕ → ℕ → ℕ) (x y a b : ℕ) (c : ℤ) (e : ℕ) : Type 0 where
  pub a_in : a < m
  pub b_in : b < m
  pub first : T x a <ℤ far
  pub second : T b y <ℤ far
  pub sum : T x y ≡ T x a +ℤ c +ℤ T b y
  pub before : M x a < e
  pub after : M b y < e
  pub holds : T a b ≤ℤ c
  pub small : c ≤ℤ pos 8388608

-- each known bound is of one place to itself, with mark 0, or goes by way of the edge that is its mark
abbrev pub Traced : ℕ → (ℕ → ℕ → ℤ) → (ℕ → ℕ → ℕ) → (ℕ → ℕ) → (ℕ → ℕ) → (ℕ → ℤ) → Type 0
Traced m T M ea eb ec = (x y : ℕ) → x < m → y < m → T x y <ℤ far → (x ≡ y) × (M x y ≡ 0) ⊎ Via m T M x y (ea (M x y)) (eb (M x y)) (ec (M x y)) (M x y)

abbrev pub mark_at : List (List ℕ) → ℕ → ℕ → ℕ
mark_at marks x y = slice_index_or (slice_index_or marks x []) y 0

abbrev pub no_edge : Edge
no_edge = record { a = 0; b = 0; c = pos 0; step = 0 }

abbrev pub edge_at : List Edge → ℕ → Edge
edge_at edges e = slice_index_or edges e no_edge

abbrev pub edge_a : List Edge → ℕ → ℕ
edge_a edges e = (edge_at edges e).a

abbrev pub edge_b : List Edge → ℕ → ℕ
edge_b edges e = (edge_at edges e).b

abbrev pub edge_c : List Edge → ℕ → ℤ
edge_c edges e = (edge_at edges e).c

-- a table with its marks, of which each way can be read off
pub record IsTraced (rows : List (List ℤ)) (marks : List (List ℕ)) (edges : List Edge) : Type 0 where
  pub table : IsTable rows
  pub in_shape : IsMarks (length rows) marks
  pub below : (x y : ℕ) → x < length rows → y < length rows → mark_at marks x y < length edges
  pub traced : Traced (length rows) (entry rows) (mark_at marks) (edge_a edges) (edge_b edges) (edge_c edges)

-- a bound goes by way of this edge, which is its mark
pub record GoesBy (rows : List (List ℤ)) (marks : List (List ℕ)) (edges : List Edge) (x y : ℕ) (e : Edge) : Type 0 where
  pub is : e ≡ edge_at edges (mark_at marks x y)
  pub within : mark_at marks x y < length edges
  pub via : Via (length rows) (entry rows) (mark_at marks) x y e.a e.b e.c (mark_at marks x y)
