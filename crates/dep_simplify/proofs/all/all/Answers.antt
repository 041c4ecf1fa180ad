use Rattle.std.proofs.Common.{◌<◌, ◌≤◌, length, arith}
use Rattle.dep_simplify.proofs.SoFar.{at_start, one_more, finished}
use Rattle.dep_simplify.proofs.all.all.Goals as goal

pub loop-alloc-init : goal.loop-alloc-init
loop-alloc-init c =
    let s = at_start c.args.nest.now c.args.relations.now c.new-verdicts.result c.new-verdicts.ensures in
    record { few = s.0; so_far = s.1 }

pub loop-alloc-preserved : goal.loop-alloc-preserved
loop-alloc-preserved c =
    let lt : length c.loop-alloc.verdicts < length c.args.relations.now = omega arith in
    let s = one_more c.args.nest.now c.args.relations.now c.loop-alloc.verdicts c.push.new.into c.as_slice.result.now c.in_ok-verdict.verdict c.loop-alloc.invariant.so_far lt c.as_slice.ensures c.in_ok-verdict.ensures c.in_ok-push.ensures in
    record { few = s.0; so_far = s.1 }

pub returns-clause-exact : goal.returns-clause-exact
returns-clause-exact c =
    let many : length c.args.relations.now ≤ length c.loop-alloc.verdicts = omega arith in
    finished c.args.nest.now c.args.relations.now c.loop-alloc.verdicts c.requires.listed c.loop-alloc.invariant.few many c.loop-alloc.invariant.so_far

pub returns-clause-certified : goal.returns-clause-certified
returns-clause-certified c = c.loop-alloc.invariant.so_far.certified
