-- The numbers of instances: those of row 0 come first, then those of row 1, and so on.
use Rattle.std.specs.Prelude.{◌≡◌, ℕ, suc, pos, ◌+◌, ◌-◌, ◌<◌, nat_lt, Bool, ◌==◌, if◌then◌else◌, List, [], ◌∷◌, take, length, slice_index_or, None}
use Rattle.std.specs.List.{flat_map}
use Rattle.core_law.specs.Works.{Instance, Work}

abbrev pub all : Work → List Instance
all w = flat_map (λ r. r) w.rows

abbrev pub nothing : Instance
nothing = record { reads = []; target = None; value = λ _. pos 0 }

abbrev pub instance_at : Work → ℕ → Instance
instance_at w g = slice_index_or (all w) g nothing

abbrev pub total : Work → ℕ
total w = length (all w)

-- the number of a row's first instance
abbrev pub first : Work → ℕ → ℕ
first w i = length (flat_map (λ r. r) (take i w.rows))

-- the row of an instance
abbrev pub row_in : List (List Instance) → ℕ → ℕ
row_in [] g = 0
row_in (r ∷ rs) g = if nat_lt g (length r) then 0 else suc (row_in rs (g - length r))

abbrev pub row : Work → ℕ → ℕ
row w g = row_in w.rows g

-- whether an instance is the first of its row
abbrev pub opens : Work → ℕ → Bool
opens w g = first w (row w g) == g

-- the number of instance j of row i is that of its row's first and j more
pub record IsNumbered (w : Work) (i j : ℕ) : Type 0 where
  pub small : first w i + j < total w
  pub here : instance_at w (first w i + j) ≡ slice_index_or (slice_index_or w.rows i []) j nothing
  pub row_is : row w (first w i + j) ≡ i
  pub opens_at : opens w (first w i + j) ≡ (j == 0)
