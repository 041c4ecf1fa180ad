-- What is left to try.
use Rattle.std.specs.Prelude.{ℕ, ℤ, List, map}
use Rattle.inspector_run.specs.declared.inverse.Places.{Places}
use Rattle.inspector_run.specs.declared.inverse.Places.TheVariants.{Counted, Sorted}
use Rattle.inspector_run.specs.declared.tries.Tries.{Tries}
use Rattle.inspector_run.specs.declared.tries.Tries.TheVariants.{Between, At}
use Rattle.inspector_run.specs.Inverses.{place_of, place_at}
use Rattle.inspector_run.specs.Tries.{numbers_between, moved}

abbrev pub places_in : Places → List ℕ
places_in (Counted rows) = map place_at rows.now
places_in (Sorted entries) = map place_of entries.now

abbrev pub left : Tries → List ℤ
left (Between next end) = numbers_between next end
left (At places plus) = moved plus (places_in places)
