use Rattle.std.proofs.Common.{◌≡◌, take}
use Rattle.index_props.specs.Entries.{of_array}
use Rattle.index_props.specs.Within.{EntriesWithin}
use Rattle.index_props.proofs.groups.of_array.Given as goal

abbrev pub invariant-loop-e : goal.invariant-loop-e
invariant-loop-e l = (l.found ≡ of_array l.array (take l.e-index l.es)) × EntriesWithin l.found
