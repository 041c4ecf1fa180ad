use Rattle.std.proofs.Common.{◌≡◌, ℕ, ◌+◌, ◌*◌, ◌≤◌, ◌||◌, drop}
use Rattle.loop_syntax.specs.Scope.{empty}
use Rattle.loop_syntax.specs.Counts.{targets, is_written}
use Rattle.loop_syntax.specs.Flags.{is_flagged}
use Rattle.loop_syntax.proofs.written.written_arrays.Given as goal

-- what is flagged or written by a line that is left, is written
abbrev pub invariant-loop-next : goal.invariant-loop-next
invariant-loop-next l = record {
  all : (number : ℕ) → (is_written (targets l.scope (drop l.next-index l.lines)) number || is_flagged l.flags.items number) ≡ is_written (targets empty l.lines) number;
  few : l.scope.arrays + l.scope.locals ≤ 4 * l.next-index;
}
