use Rattle.std.proofs.Common.{◌≡◌, ◌+◌, ◌≤◌, map}
use Rattle.std.specs.List.{range_with_len}
use Rattle.loop_core.specs.Lists.{list_of}
use Rattle.inspector_run.specs.Tries.{word}
use Rattle.inspector_run.proofs.inverse.read_all.Given as goal

-- the entries so far, one tick for each
abbrev pub invariant-loop-place : goal.invariant-loop-place
invariant-loop-place g l = record {
  entries : l.values.items ≡ map (word (list_of l.arrays.lists l.array)) (range_with_len 0 l.place);
  ticks : l.steps ≤ l.initial.steps + l.place;
}
