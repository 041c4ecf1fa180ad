use Rattle.std.proofs.Common.{◌^◌, take}
use Rattle.uf_constraints.specs.Constants.{DiffsWithin}
use Rattle.uf_constraints.proofs.small.are_diffs_small.Given as goal

abbrev pub invariant-loop-diff : goal.invariant-loop-diff
invariant-loop-diff l = DiffsWithin (2 ^ 21) (take l.diff-index l.diffs)
