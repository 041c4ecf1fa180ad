-- Dependence of rows, by the cells that they touch.
use Rattle.std.specs.Prelude.{◌≡◌, ◌⊎◌, ℕ, ◌<◌, Contains, Some}
use Rattle.wave_base.specs.declared.types.Cell.{Cell}
use Rattle.core_law.specs.Works.{Work}
use Rattle.core_law.specs.Numbers.{instance_at, total, row}

abbrev pub Reads : Work → ℕ → Cell → Type 0
Reads w g cell = Contains (instance_at w g).reads cell

abbrev pub Writes : Work → ℕ → Cell → Type 0
Writes w g cell = (instance_at w g).target ≡ Some cell

abbrev pub Touches : Work → ℕ → Cell → Type 0
Touches w g cell = Reads w g cell ⊎ Writes w g cell

-- row j, after i, touches a cell that i touches too, and one of them writes it
abbrev pub RowDepends : Work → ℕ → ℕ → Type 0
RowDepends w i j = (i < j) × (g : ℕ) × (h : ℕ) × (g < total w) × (h < total w) × (row w g ≡ i) × (row w h ≡ j)
    × (cell : Cell) × ((Writes w g cell × Touches w h cell) ⊎ (Touches w g cell × Writes w h cell))
