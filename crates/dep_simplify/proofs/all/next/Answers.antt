use Rattle.std.proofs.Common.{◌≡◌}
use Rattle.std.proofs.lemmas.Result.{IfOk-weaker}
use Rattle.dep_simplify.specs.declared.verdict.Verdict.{Verdict}
use Rattle.dep_simplify.specs.Ready.{IsNext, again_of}
use Rattle.dep_simplify.proofs.Twins.{said_again}
use Rattle.dep_simplify.proofs.all.next.Goals as goal

pub returns-in-Some : goal.returns-in-Some
returns-in-Some c =
    let v : Verdict = c.index-verdicts-k.result in
    IfOk-weaker c.again.result (λ w. w ≡ again_of v c.in-Some.k) (IsNext c.args.nest.now c.args.verdicts.now)
    (λ w e. said_again c.args.nest.now c.args.props.now c.args.relations.now c.requires.ready c.args.verdicts.now c.requires.so_far c.in-Some.k c.in-Some.ensures v w c.index-verdicts-k.is e) c.again.ensures
