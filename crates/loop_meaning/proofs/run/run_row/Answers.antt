use Rattle.std.proofs.Common.{◌≡◌, ap, ◌∙◌, pos}
use Rattle.loop_core.specs.Instances.{instances}
use Rattle.loop_core.specs.Sequence.{after_one, after_all}
use Rattle.loop_meaning.proofs.Walks.{admits_all, runs}
use Rattle.loop_meaning.proofs.run.run_row.Goals as goal

pub walk_row-requires-clause-admits : goal.walk_row-requires-clause-admits
walk_row-requires-clause-admits c = admits_all (λ x s y. y ≡ after_one s x) _ (instances c.args.arrays.now c.args.nest.now (pos c.args.row.0))

pub returns : goal.returns
returns c =
    let rows = instances c.args.arrays.now c.args.nest.now (pos c.args.row.0) in
    runs rows c.renew.new.self c.walk_row.new.visitor c.in-Ok.ensures ∙ ap (after_all rows) c.renew.ensures
