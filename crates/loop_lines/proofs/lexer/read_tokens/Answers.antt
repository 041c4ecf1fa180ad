use Rattle.std.proofs.Common.{arith}
use Rattle.std.proofs.lemmas.Bool.Decides.{nat_tests}
use Rattle.loop_lines.proofs.TokenLaws.{first_blanks, blanks_gone, refused, less_left, one_more}
use Rattle.loop_lines.proofs.lexer.read_tokens.Goals as goal

pub loop-rest-init : goal.loop-rest-init
loop-rest-init c = (rw (c.new-found.ensures.items, c.skip_blanks-rest.ensures) (first_blanks c.args.line.now), rw c.skip_blanks-rest.ensures (blanks_gone c.args.line.now))

pub returns-in_default : goal.returns-in_default
returns-in_default c = refused c.loop-rest.found.items c.loop-rest.rest.now _ (grind (arith, nat_tests)) c.loop-rest.invariant.1 c.in_default.ensures c.loop-rest.invariant.0

pub loop-rest-smaller : goal.loop-rest-smaller
loop-rest-smaller c = rw c.skip_blanks-rest-in-loop-rest.ensures (less_left c.loop-rest.rest.now c.in-Some.after.now c.in-Some.token c.in-Some.ensures)

pub loop-rest-preserved : goal.loop-rest-preserved
loop-rest-preserved c = (
  rw (c.in_ok-push.ensures.items, c.skip_blanks-rest-in-loop-rest.ensures) (one_more c.loop-rest.found.items c.loop-rest.rest.now c.in-Some.after.now c.in-Some.token _ (grind (arith, nat_tests)) c.loop-rest.invariant.1 c.in-Some.ensures c.loop-rest.invariant.0),
  rw c.skip_blanks-rest-in-loop-rest.ensures (blanks_gone c.in-Some.after.now),
)
