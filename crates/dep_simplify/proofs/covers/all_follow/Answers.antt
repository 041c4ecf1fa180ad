use Rattle.uf_constraints.proofs.Walked.{all_step, all_end}
use Rattle.index_props.specs.Derivable.{Derivable}
use Rattle.dep_simplify.proofs.covers.all_follow.Goals as goal

pub loop-diff-preserved : goal.loop-diff-preserved
loop-diff-preserved c = λ base rules o.
    all_step (λ d. Derivable c.args.closure.now.atoms base rules d.a d.b d.c) c.args.diffs.now c.loop-diff.diff-index c.diff-item.result c.loop-diff-test.true c.diff-item.is (c.loop-diff.invariant base rules o) (c.follows.ensures.yes c.if-not-follows.false base rules o)

pub returns-clause-yes : goal.returns-clause-yes
returns-clause-yes c = λ e base rules o.
    all_end (λ d. Derivable c.args.closure.now.atoms base rules d.a d.b d.c) c.args.diffs.now c.loop-diff.diff-index c.loop-diff-test.false (c.loop-diff.invariant base rules o)
