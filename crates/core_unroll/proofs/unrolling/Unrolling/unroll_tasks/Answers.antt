use Rattle.std.proofs.Common.{subst}
use Rattle.sched_types.specs.declared.sched.Task.{Task}
use Rattle.core_nest.specs.NestLaws.{plain_work}
use Rattle.core_unroll.specs.Advances.{TaskAdvances}
use Rattle.core_unroll.proofs.Advanced.{advances_none}
use Rattle.core_unroll.proofs.Going.{tasks_more, tasks_all}
use Rattle.core_unroll.proofs.unrolling.Unrolling.unroll_tasks.Goals as goal

pub loop-task-init : goal.loop-task-init
loop-task-init c = λ x workers ready below. advances_none (plain_work c.args.nest.now c.args.arrays.now x workers) c.args.self.now

pub loop-task-preserved : goal.loop-task-preserved
loop-task-preserved c = λ x workers ready below.
    tasks_more c.args.nest.now c.args.arrays.now c.args.tasks.now c.loop-task.task-index c.task-item.result c.args.self.now c.loop-task.self c.unroll_task.new.self x workers c.loop-task-test.true ready below
    (c.loop-task.invariant x workers ready below)
    (subst (λ (t : Task). TaskAdvances c.args.nest.now c.args.arrays.now t c.loop-task.self c.unroll_task.new.self) c.task-item.is c.in_ok-unroll_task.ensures)

pub returns : goal.returns
returns c = λ x workers ready below.
    tasks_all (plain_work c.args.nest.now c.args.arrays.now x workers) c.args.self.now c.loop-task.self c.args.tasks.now c.loop-task.task-index c.loop-task-test.false (c.loop-task.invariant x workers ready below)
