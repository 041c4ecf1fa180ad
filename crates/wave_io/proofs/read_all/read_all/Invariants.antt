use Rattle.std.proofs.Common.{◌+◌, ◌-◌, ◌≡◌, ◌≤◌, ℕ, List, IfSome, vec_len, min}
use Rattle.wave_io.specs.Files.{Begin}
use Rattle.wave_io.proofs.read_all.read_all.Given as goal

-- what was fetched is the file's beginning, and at most one piece of room stands after it
abbrev pub invariant-loop-filled : goal.invariant-loop-filled
invariant-loop-filled g l = record {
  filled : l.filled ≤ vec_len l.bytes;
  tail : vec_len l.bytes ≤ min (l.filled + 65536) (l.fn.limit + 1);
  told : IfSome (g.L.Library.held l.initial.lib l.name) (λ all. Begin all l.bytes.items l.filled);
  never_fall : (other : List ℕ) → g.L.Library.faults l.initial.lib other ≤ g.L.Library.faults l.lib other;
  stays : (other : List ℕ) → g.L.Library.held l.lib other ≡ g.L.Library.held l.initial.lib other;
}

abbrev pub decreases-loop-filled : goal.decreases-loop-filled
decreases-loop-filled g l = l.limit + 1 - l.filled
