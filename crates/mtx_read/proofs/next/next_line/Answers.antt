use Rattle.std.proofs.Common.{sym, ◌∙◌, arith}
use Rattle.std.proofs.lemmas.Bool.Decides.{nat_tests}
use Rattle.mtx_read.proofs.Rows.{next_skips, next_kept}
use Rattle.mtx_read.proofs.next.next_line.Goals as goal

pub returns-then-not-is_skipped : goal.returns-then-not-is_skipped
returns-then-not-is_skipped c =
    let k = next_kept c.loop-rest.at c.loop-rest.rest.now c.split_line.result.0.now c.split_line.result.1.now (grind (arith, nat_tests)) c.split_line.ensures.line c.split_line.ensures.after (cc) in
    (sym c.loop-rest.invariant.same ∙ k.0, omega (arith, k.1, c.loop-rest.invariant.room))

pub loop-rest-smaller : goal.loop-rest-smaller
loop-rest-smaller c = (next_skips c.loop-rest.at c.loop-rest.rest.now c.split_line.result.0.now c.split_line.result.1.now (grind (arith, nat_tests)) c.split_line.ensures.line c.split_line.ensures.after (cc)).2

pub loop-rest-preserved : goal.loop-rest-preserved
loop-rest-preserved c =
    let k = next_skips c.loop-rest.at c.loop-rest.rest.now c.split_line.result.0.now c.split_line.result.1.now (grind (arith, nat_tests)) c.split_line.ensures.line c.split_line.ensures.after (cc) in
    record {
      same = sym k.0 ∙ c.loop-rest.invariant.same;
      count = omega (arith, k.1, c.loop-rest.invariant.count);
      room = omega (arith, k.2, c.loop-rest.invariant.room);
    }
