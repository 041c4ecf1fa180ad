use Rattle.std.proofs.Common.{◌≡◌, ◌≤◌, ◌+◌, ◌*◌, drop}
use Rattle.loop_syntax.specs.Scope.{empty}
use Rattle.loop_syntax.specs.NameRules.{first_fault}
use Rattle.loop_syntax.proofs.names.first_fault.Given as goal

abbrev pub invariant-loop-next : goal.invariant-loop-next
invariant-loop-next l = record {
  same : first_fault l.scope (drop l.next-index l.lines) ≡ first_fault empty l.lines;
  few : l.scope.arrays + l.scope.locals ≤ 4 * l.next-index;
}
