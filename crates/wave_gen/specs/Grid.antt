-- The matrix of a square grid of k rows of k points.
use Rattle.std.specs.Prelude.{ℕ, pos, negsuc, ◌+◌, ◌-◌, ◌*◌, Bool, List, [], ◌∷◌, ◌++◌, if◌then◌else◌, nat_lt}
use Rattle.std.specs.List.{flat_map, range_with_len}
use Rattle.csr_arrays.specs.Axes.{Triple}
use Rattle.wave_gen.specs.Texts.{matrix_text}

-- the number of the point in row r and column c of the grid
abbrev pub place : ℕ → ℕ → ℕ → ℕ
place k r c = r * k + c

-- -1 for a neighbour that exists
abbrev pub neighbour : Bool → ℕ → ℕ → List Triple
neighbour exists at other = if exists then (at, other, negsuc 0) ∷ [] else []

-- the entries of a point: above, left, itself, right, below
abbrev pub point : ℕ → ℕ → ℕ → List Triple
point k r c =
    neighbour (nat_lt 0 r) (place k r c) (place k (r - 1) c)
    ++ neighbour (nat_lt 0 c) (place k r c) (place k r (c - 1))
    ++ (place k r c, place k r c, pos 4) ∷ neighbour (nat_lt (c + 1) k) (place k r c) (place k r (c + 1))
    ++ neighbour (nat_lt (r + 1) k) (place k r c) (place k (r + 1) c)

-- of the points of row r of the grid
abbrev pub row_entries : ℕ → ℕ → List Triple
row_entries k r = flat_map (point k r) (range_with_len 0 k)

abbrev pub grid_entries : ℕ → List Triple
grid_entries k = flat_map (row_entries k) (range_with_len 0 k)

abbrev pub grid_text : ℕ → List ℕ
grid_text k = matrix_text (k * k) (k * k + 4 * k * (k - 1)) (grid_entries k)
