use Rattle.std.proofs.Common.{rules, ◌↔◌, ◌≤ℤ◌, IsTrue, SFits}
use mir.Syntax.{w64, w128}
use Rattle.std.proofs.lemmas.Int.{to_z-of_z}
use Rattle.access_bounds.proofs.Sides.{least-decides, none-decides}
use Rattle.access_bounds.proofs.closing.shows.Goals as goal

pub returns-in-Some : goal.returns-in-Some
returns-in-Some c base given closed not =
    let fb : SFits w64 c.in-Some.bound = search rules in
    let fc : SFits w128 c.args.c = search rules in
    let test : IsTrue c.is_at_most.result ↔ (c.in-Some.bound ≤ℤ c.args.c) = simp to_z-of_z at c.is_at_most.ensures in
    least-decides c.args.closure.now.atoms base given c.args.a.now c.args.b.now c.in-Some.bound c.args.c c.is_at_most.result (c.in-Some.ensures base given closed not) test

pub returns-in-None : goal.returns-in-None
returns-in-None c base given closed not =
    none-decides c.args.closure.now.atoms base given c.args.a.now c.args.b.now c.args.c (c.in-None.ensures base given closed not)
