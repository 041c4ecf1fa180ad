use Rattle.uf_constraints.proofs.Equal.{atom_test}
use Rattle.uf_constraints.proofs.same.same_atom.Goals as goal

pub returns : goal.returns
returns c = atom_test c.same_atom.result c.args.a.now c.args.b.now c.same_atom.ensures
