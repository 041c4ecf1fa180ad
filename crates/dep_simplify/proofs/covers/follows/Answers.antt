use Rattle.std.proofs.Common.{rules, w64}
use Rattle.std.proofs.lemmas.Int.{to_z-of_z}
use mir.Val.{SFits}
use Rattle.dep_simplify.proofs.Asked.{above_least, below_least}
use Rattle.dep_simplify.proofs.covers.follows.Goals as goal

pub returns-in-Some-clause-yes : goal.returns-in-Some-clause-yes
returns-in-Some-clause-yes c = λ t base insts o.
    let fb : SFits w64 c.in-Some.bound = search rules in
    let fd : SFits w64 c.args.diff.now.c = search rules in
    above_least c.args.closure.now.atoms base insts c.args.diff.now.a c.args.diff.now.b c.in-Some.bound c.args.diff.now.c (c.in-Some.ensures base insts o.closure o.consistent)
    (rw (to_z-of_z w64 c.in-Some.bound fb, to_z-of_z w64 c.args.diff.now.c fd) at t)

pub returns-in-Some-clause-no : goal.returns-in-Some-clause-no
returns-in-Some-clause-no c = λ t base insts o.
    let fb : SFits w64 c.in-Some.bound = search rules in
    let fd : SFits w64 c.args.diff.now.c = search rules in
    below_least c.args.closure.now.atoms base insts c.args.diff.now.a c.args.diff.now.b c.in-Some.bound c.args.diff.now.c (c.in-Some.ensures base insts o.closure o.consistent)
    (rw (to_z-of_z w64 c.in-Some.bound fb, to_z-of_z w64 c.args.diff.now.c fd) at t)
