use Rattle.std.proofs.Common.{◌≡◌, take}
use Rattle.std.specs.List.{flat_map}
use Rattle.uf_constraints.specs.Universe.{all_listed, diff_parts}
use Rattle.uf_constraints.proofs.listing.list_base.Given as goal

abbrev pub invariant-loop-diff : goal.invariant-loop-diff
invariant-loop-diff l = l.into ≡ all_listed l.fn.into (flat_map diff_parts (take l.diff-index l.base))
