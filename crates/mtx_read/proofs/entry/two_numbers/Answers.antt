use Rattle.std.proofs.Common.{sym}
use Rattle.mtx_read.proofs.entry.two_numbers.Goals as goal

pub returns : goal.returns
returns c = record {
  after_first = c.in-Some.after_i.now;
  at_second = c.in-Some-quick_gap.at_j.now;
  one = rw (← c.skip_blanks-start.ensures) (sym c.in-Some.ensures.digits);
  gap = sym c.in-Some-quick_gap.ensures;
  two = sym c.in-Some-quick_natural.ensures.digits;
}
