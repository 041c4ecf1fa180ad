-- The variables of a relation, with what they run over.
use Rattle.std.specs.Prelude.{ℕ, Bool, ◌==◌, ◌&&◌, if◌then◌else◌, List, [], ◌∷◌, ◌++◌}
use Rattle.std.specs.List.{flat_map}
use Rattle.loop_core.specs.declared.nest.Nest.{Nest}
use Rattle.loop_core.specs.declared.nest.Side.{Side}
use Rattle.loop_core.specs.declared.nest.Side.TheVariants.{First, Second}
use Rattle.loop_core.specs.declared.nest.VarId.{VarId}
use Rattle.uf_constraints.specs.declared.reach.Around.{Around}
use Rattle.uf_constraints.specs.declared.reach.Around.TheVariants.{Loop, Guard}
use Rattle.uf_constraints.specs.declared.reach.Site.{Site}
use Rattle.uf_constraints.specs.declared.system.Reference.{Reference}
use Rattle.uf_constraints.specs.declared.system.Relation.{Relation}
use Rattle.uf_constraints.specs.Bases.{on}
use Rattle.uf_constraints.specs.Relations.{sites}
use Rattle.inspector_gen.specs.declared.unknown.Unknown.{Unknown}
use Rattle.inspector_gen.specs.declared.unknown.Span.TheVariants.{Rows, Between}

abbrev pub variable : ℕ → Side → VarId
variable line side = record { line = line; side = side }

-- the variable of a loop, on a side
abbrev pub unknown_of : Side → Around → List Unknown
unknown_of side (Loop line lo hi) = record { var = variable line side; span = Between (on side lo) (on side hi) } ∷ []
unknown_of side (Guard rel left right) = []

-- what stands round a reference: that of its site
abbrev pub is_at : Reference → Site → Bool
is_at r s = (s.reference.line == r.line) && (s.reference.bracket == r.bracket)

abbrev pub around_in : List Site → Reference → List Around
around_in [] r = []
around_in (s ∷ more) r = if is_at r s then s.around else around_in more r

-- the variables on a side, from the outside in
abbrev pub unknowns_in : Nest → List Site → Side → Reference → List Unknown
unknowns_in nest all side r = record { var = variable nest.line side; span = Rows } ∷ flat_map (unknown_of side) (around_in all r)

abbrev pub unknowns_on : Nest → Side → Reference → List Unknown
unknowns_on nest side r = unknowns_in nest (sites nest) side r

-- the two orders
abbrev pub first_side_first : Nest → Relation → List Unknown
first_side_first nest r = unknowns_on nest First r.first ++ unknowns_on nest Second r.second

abbrev pub second_side_first : Nest → Relation → List Unknown
second_side_first nest r = unknowns_on nest Second r.second ++ unknowns_on nest First r.first
