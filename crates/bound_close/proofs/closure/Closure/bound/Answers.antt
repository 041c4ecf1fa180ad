use Rattle.std.proofs.Common.{w64}
use Rattle.std.proofs.lemmas.Int.{to_z-of_z}
use mir.Val.{SFits}
use Rattle.bound_close.proofs.Closes.{bound-is}
use Rattle.bound_close.proofs.closure.Closure.bound.Goals as goal

pub returns : goal.returns
returns c = λ base rules h n.
    let fc : SFits w64 c.in-Some.between.bound = search rules in
    rw (to_z-of_z w64 c.in-Some.between.bound fc) (bound-is c.args.self.now base rules h c.args.a.now c.args.b.now c.in-Some.between c.in-Some.ensures)
