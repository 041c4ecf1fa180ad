use Rattle.std.proofs.Common.{rules, ◌<◌, length, arith}
use Rattle.std.proofs.lemmas.Bool.Decides.{nat_tests}
use Rattle.loop_lines.proofs.FitLaws.{fewer}
use Rattle.loop_syntax.proofs.CutLaws.{progress_on, stopped_at}
use Rattle.loop_syntax.proofs.numbered.cut_lines.Goals as goal

pub returns-in_err-place-clause-answer : goal.returns-in_err-place-clause-answer
returns-in_err-place-clause-answer c =
    let some : 0 < length c.loop-rest.rest.now = grind (arith, nat_tests) in
    let stop = stopped_at c.args.bytes.now c.loop-rest.kept c.take.new.kept c.loop-rest.place c.loop-rest.number c.loop-rest.rest.now c.split_line.result.0.now c.in_err-place.field-0.0 some c.split_line.ensures.line c.loop-rest.invariant c.in_err-place.ensures in
    search (rules, stop)

pub loop-rest-smaller : goal.loop-rest-smaller
loop-rest-smaller c =
    let some : 0 < length c.loop-rest.rest.now = grind (arith, nat_tests) in
    fewer c.loop-rest.rest.now c.split_line.result.1.now some c.split_line.ensures.after

pub loop-rest-preserved : goal.loop-rest-preserved
loop-rest-preserved c =
    let some : 0 < length c.loop-rest.rest.now = grind (arith, nat_tests) in
    progress_on c.args.bytes.now c.loop-rest.kept c.take.new.kept c.loop-rest.place c.in_ok-place.place c.loop-rest.number c.loop-rest.rest.now c.split_line.result.0.now c.split_line.result.1.now some c.split_line.ensures.line c.split_line.ensures.after c.in_ok-place.ensures.0 c.in_ok-place.ensures.1 c.loop-rest.invariant
