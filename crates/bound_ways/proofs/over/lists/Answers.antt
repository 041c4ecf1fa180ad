use Rattle.std.proofs.Common.{arith}
use Rattle.std.proofs.lemmas.Grind.{common_steps}
use Rattle.bound_ways.proofs.Atoms.{contains-place, place-in}
use Rattle.bound_ways.proofs.over.lists.Goals as goal

pub returns-clause-yes : goal.returns-clause-yes
returns-clause-yes c = λ h. contains-place c.args.atoms.now c.args.atom.now (let e = c.place.ensures in grind (arith, common_steps, h, e))

pub returns-clause-no : goal.returns-clause-no
returns-clause-no c = λ h listed. (let l = place-in c.args.atoms.now c.args.atom.now listed in let e = c.place.ensures in grind (arith, common_steps, h, e, l))
