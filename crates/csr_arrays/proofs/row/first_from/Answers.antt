use Rattle.std.proofs.Common.{pos, ◌≤ℤ◌, get_or, length, arith, rules}
use Rattle.csr_arrays.proofs.Columns.{first_is}
use Rattle.csr_arrays.proofs.row.first_from.Goals as goal

pub returns-then-from-column-clause-first : goal.returns-then-from-column-clause-first
returns-then-from-column-clause-first c =
    let here : pos c.args.row ≤ℤ get_or c.args.columns.now c.loop-at.at (pos 0) = search rules in
    λ cs e. first_is c.args.row c.loop-at.at c.args.columns.now cs e (omega arith) c.loop-at.invariant (λ lt. here)

pub returns-clause-first : goal.returns-clause-first
returns-clause-first c = λ cs e. first_is c.args.row (length c.args.columns.now) c.args.columns.now cs e (omega arith) (λ k lt. c.loop-at.invariant k (omega (arith, lt))) (λ lt. absurd (omega (arith, lt)))
