-- The places that instances access, and the cells that they touch.
use Rattle.std.specs.Prelude.{◌⊎◌, ◌≡◌, ◌<◌, ℤ, pos, negsuc, ◌&&◌, nat_lt, if◌then◌else◌, Option, Some, None, List, [], ◌∷◌}
use Rattle.std.specs.List.{AllPairs}
use Rattle.wave_base.specs.declared.types.ArrayId.{ArrayId}
use Rattle.wave_base.specs.declared.types.Cell.{Cell}
use Rattle.loop_core.specs.declared.nest.Nest.{Nest}
use Rattle.loop_core.specs.Lists.{Lists}
use Rattle.loop_core.specs.Sizes.{declared_length}
use Rattle.loop_core.specs.Shape.{is_target}
use Rattle.loop_core.specs.declared.effect.Effect.{Effect}
use Rattle.loop_core.specs.declared.effect.Effect.TheVariants.{Sets, Keeps}
use Rattle.loop_core.specs.declared.place.Place.{Place}

-- cells are ordered by array and then by place
abbrev pub IsBelow : Cell → Cell → Type 0
IsBelow b c = (b.array.0 < c.array.0) ⊎ ((b.array.0 ≡ c.array.0) × (b.at < c.at))

-- each cell is below those after it, so none stands twice
abbrev pub IsAscending : List Cell → Type 0
IsAscending cells = AllPairs IsBelow cells

-- the place that an effect sets: a local is none
abbrev pub places_set : Effect → List Place
places_set (Sets place) = place ∷ []
places_set (Keeps local) = []

-- the cell of a place, where that is a cell that can be touched
abbrev pub cell_at : Lists → Nest → ArrayId → ℤ → Option Cell
cell_at a nest array (pos at) =
    if is_target nest array && nat_lt at (declared_length nest.decls a.n a.nnz array) then Some (record { array = array; at = at }) else None
cell_at a nest array (negsuc k) = None

abbrev pub cell_of : Lists → Nest → Place → Option Cell
cell_of a nest place = cell_at a nest place.array place.at
