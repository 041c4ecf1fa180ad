use Rattle.std.proofs.Common.{◌≡◌, take}
use Rattle.index_props.specs.Entries.{entries}
use Rattle.index_props.specs.Within.{EntriesWithin}
use Rattle.index_props.proofs.groups.entries.Given as goal

abbrev pub invariant-loop-atom : goal.invariant-loop-atom
invariant-loop-atom l = (l.found ≡ entries l.decls (take l.atom-index l.atoms)) × EntriesWithin l.found
