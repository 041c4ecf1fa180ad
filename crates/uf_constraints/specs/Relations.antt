-- The references of a nest to the arrays that it writes, and the relations between them.
use Rattle.std.specs.Prelude.{Bool, true, false, ◌&&◌, ◌||◌, if◌then◌else◌, List, [], ◌∷◌, ◌++◌, map}
use Rattle.std.specs.List.{flat_map}
use Rattle.loop_core.specs.declared.nest.Nest.{Nest}
use Rattle.loop_core.specs.Shape.{same_array, is_target}
use Rattle.uf_constraints.specs.declared.system.Reference.{Reference}
use Rattle.uf_constraints.specs.declared.system.Relation.{Relation}
use Rattle.uf_constraints.specs.declared.reach.Usage.{Usage}
use Rattle.uf_constraints.specs.declared.reach.Usage.TheVariants.{Entry, Reads, Sets}
use Rattle.uf_constraints.specs.declared.reach.Bracket.{Bracket}
use Rattle.uf_constraints.specs.declared.reach.Spot.{Spot}
use Rattle.uf_constraints.specs.declared.reach.Site.{Site}
use Rattle.uf_constraints.specs.Brackets.{spots}
use Rattle.uf_constraints.specs.Bases.{relation_base}

abbrev pub is_read : Usage → Bool
is_read Reads = true
is_read Entry = false
is_read Sets = false

abbrev pub is_write : Usage → Bool
is_write Sets = true
is_write Entry = false
is_write Reads = false

-- a read of an array that the nest writes, and a write
abbrev pub reads_written : Nest → Bracket → Bool
reads_written nest b = is_read b.usage && is_target nest b.array

abbrev pub writes : Bracket → Bool
writes b = is_write b.usage

abbrev pub site : Spot → Bracket → Site
site s b = record { reference = record { line = s.line; bracket = b.number; array = b.array; writes = writes b }; at = b.at; around = s.around }

abbrev pub read_site : Nest → Spot → Bracket → List Site
read_site nest s b = if reads_written nest b then site s b ∷ [] else []

abbrev pub write_site : Spot → Bracket → List Site
write_site s b = if writes b then site s b ∷ [] else []

-- the references on a line: its reads of written arrays from left to right, and then its write
abbrev pub sites_on : Nest → Spot → List Site
sites_on nest s = flat_map (read_site nest s) s.brackets ++ flat_map (write_site s) s.brackets

-- and those of the nest, line by line
abbrev pub sites : Nest → List Site
sites nest = flat_map (sites_on nest) (spots nest)

abbrev pub references : Nest → List Reference
references nest = map (λ s. s.reference) (sites nest)

-- two references to one array of which one writes make a relation
abbrev pub are_related : Site → Site → Bool
are_related s t = same_array s.reference.array t.reference.array && (s.reference.writes || t.reference.writes)

abbrev pub relation : Nest → Site → Site → Relation
relation nest s t = record { first = s.reference; second = t.reference; base = relation_base nest s t }

abbrev pub related : Nest → Site → Site → List Relation
related nest s t = if are_related s t then relation nest s t ∷ [] else []

-- every ordered pair of references that is one, by first and then by second reference
abbrev pub relations : Nest → List Relation
relations nest = flat_map (λ s. flat_map (related nest s) (sites nest)) (sites nest)
