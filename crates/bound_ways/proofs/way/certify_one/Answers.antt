use Rattle.std.proofs.Common.{rules, w64}
use Rattle.std.proofs.lemmas.Int.{to_z-of_z}
use mir.Val.{SFits}
use Rattle.bound_ways.proofs.Atoms.{place-in, place-is}
use Rattle.bound_ways.proofs.way.certify_one.Goals as goal

pub returns : goal.returns
returns c =
    let fc : SFits w64 c.args.premise.now.c = search rules in
    rw (c.place-x.ensures, c.place-y.ensures, place-is c.args.atoms.now c.args.premise.now.a (place-in c.args.atoms.now c.args.premise.now.a c.requires.over.left), place-is c.args.atoms.now c.args.premise.now.b (place-in c.args.atoms.now c.args.premise.now.b c.requires.over.right), to_z-of_z w64 c.args.premise.now.c fc) at c.settle.ensures
