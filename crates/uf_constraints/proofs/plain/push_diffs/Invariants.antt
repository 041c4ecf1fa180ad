use Rattle.std.proofs.Common.{◌≡◌, ◌++◌, take}
use Rattle.std.specs.List.{flat_map}
use Rattle.uf_constraints.specs.Universe.{diff_parts}
use Rattle.uf_constraints.proofs.plain.push_diffs.Given as goal

abbrev pub invariant-loop-diff : goal.invariant-loop-diff
invariant-loop-diff l = l.into ≡ l.fn.into ++ flat_map diff_parts (take l.diff-index l.base)
