use Rattle.std.proofs.Common.{◌∙◌, List, sym, subst}
use Rattle.wave_base.specs.declared.types.RowId.{RowId}
use Rattle.wave_levels.specs.Chains.{IsLeastChain}
use Rattle.plan_build.proofs.Planning.{placed, plan, plan_fits}
use Rattle.plan_build.proofs.build.build.Goals as goal

pub group-requires-clause-weights : goal.group-requires-clause-weights
group-requires-clause-weights c = (c.requires.weights.0 ∙ sym c.in_ok-preds.ensures.each_row ∙ sym c.in_ok-levels.ensures.levels.0, c.requires.weights.1)

pub sparsify-requires : goal.sparsify-requires
sparsify-requires c =
    placed c.args.n c.args.pairs.items c.args.weights.now c.args.workers c.in_ok-preds.preds c.in_ok-levels.levels c.in_ok-preds.ensures c.in_ok-levels.ensures.levels c.requires.weights c.requires.some c.in_ok-tasks.tasks.workers c.in_ok-tasks.ensures.tasks

pub returns-clause-plan : goal.returns-clause-plan
returns-clause-plan c =
    let chain = subst (λ (rows : List RowId). IsLeastChain c.in_ok-preds.preds c.in_ok-levels.levels rows) (sym c.from_vec.ensures) c.in_ok-chain.ensures in
    plan c.args.n c.args.pairs.items c.args.weights.now c.args.workers c.in_ok-preds.preds c.in_ok-levels.levels c.in_ok-preds.ensures c.in_ok-levels.ensures.levels c.requires.weights c.requires.some c.in_ok-tasks.tasks.workers c.in_ok-tasks.ensures.tasks
    (record { edges = c.edges.result; levels = c.count.result; chain = c.from_vec.result; sched = c.in_ok-sched.sched; cross = c.in_ok-sched.cross }) c.edges.ensures c.count.ensures chain c.in_ok-sched.ensures.kept c.in_ok-sched.ensures.cross

pub returns-clause-fits : goal.returns-clause-fits
returns-clause-fits c =
    plan_fits c.args.n c.args.pairs.items c.args.weights.now c.args.workers c.in_ok-preds.preds c.in_ok-levels.levels c.in_ok-preds.ensures c.in_ok-levels.ensures.levels c.requires.weights c.requires.some c.in_ok-tasks.tasks.workers c.in_ok-tasks.ensures.tasks c.in_ok-sched.sched.workers c.in_ok-sched.ensures.fits
