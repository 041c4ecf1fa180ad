use Rattle.std.proofs.Common.{◌≡◌, ◌+◌, ◌*◌, ◌≤◌, ◌++◌, map, length}
use Rattle.loop_core.specs.Variables.{bindings}
use Rattle.inspector_run.specs.Left.{left}
use Rattle.inspector_run.specs.Pairs.{met, met_along, as_rows, visits_after, visits_along}
use Rattle.inspector_run.specs.Ticks.{each_visit}
use Rattle.inspector_run.specs.Ready.{AreReady}
use Rattle.inspector_run.proofs.run.+run.Given as goal

-- what is left may be run, and gives the rest of the pairs, within the rest of the ticks
abbrev pub invariant-run_along-loop-value : goal.invariant-run_along-loop-value
invariant-run_along-loop-value g l = record {
  ready : AreReady l.arrays l.after l.var (bindings l.env) (left l.tries);
  pairs : l.pairs.items ++ map as_rows (met_along (met l.arrays l.after) l.var (bindings l.env) (left l.tries)) ≡ l.initial.pairs.items ++ map as_rows (met_along (met l.arrays l.after) l.var (bindings l.env) (left l.fn.tries));
  ticks : l.steps + visits_along (visits_after l.arrays l.after) l.var (bindings l.env) (left l.tries) * each_visit l.arrays l.after ≤ l.initial.steps + visits_along (visits_after l.arrays l.after) l.var (bindings l.env) (left l.fn.tries) * each_visit l.arrays l.after;
}

abbrev pub decreases-run_along-loop-value : goal.decreases-run_along-loop-value
decreases-run_along-loop-value g l = length (left l.tries)

abbrev pub decreases-run : goal.decreases-run
decreases-run g l = 3 * length l.ops.now

abbrev pub decreases-run_first : goal.decreases-run_first
decreases-run_first g l = 3 * length l.after.now + 2

abbrev pub decreases-run_where : goal.decreases-run_where
decreases-run_where g l = 3 * length l.after.now + 1

abbrev pub decreases-run_along : goal.decreases-run_along
decreases-run_along g l = 3 * length l.after.now + 1
