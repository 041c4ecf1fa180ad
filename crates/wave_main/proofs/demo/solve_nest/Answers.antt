use Rattle.std.proofs.Common.{List, ℕ, sym, subst}
use Rattle.access_bounds.specs.Accepted.{IsAccepted}
use Rattle.wave_main.specs.Demo.{solve_loop}
use Rattle.wave_main.specs.Loops.{IsLoop}
use Rattle.wave_main.proofs.demo.solve_nest.Goals as goal

pub returns-clause-is_loop : goal.returns-clause-is_loop
returns-clause-is_loop c =
    let OfBytes : List ℕ → Type 0 = λ bytes. IsLoop bytes c.in_ok-read.read in
    subst (IsLoop solve_loop) (sym c.in_ok-nest.ensures.0) (subst OfBytes c.solve_loop.ensures c.in_ok-read.ensures.answer)

pub returns-clause-accepted : goal.returns-clause-accepted
returns-clause-accepted c = subst IsAccepted (sym c.in_ok-nest.ensures.0) c.in_ok-nest.ensures.1
