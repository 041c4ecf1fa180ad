use Rattle.std.proofs.Common.{ℕ, ◌<◌, ◌^◌, length, get_or, []}
use Rattle.done_words.proofs.ranges.tasks_fit.Given as goal

abbrev pub invariant-loop-tasks : goal.invariant-loop-tasks
invariant-loop-tasks l = (k : ℕ) → k < l.tasks-index → length (get_or l.tasks-items k []) < 2 ^ 64
