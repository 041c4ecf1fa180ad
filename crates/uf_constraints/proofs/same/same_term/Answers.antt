use Rattle.uf_constraints.proofs.Equal.{term_test}
use Rattle.uf_constraints.proofs.same.same_term.Goals as goal

pub returns : goal.returns
returns c = term_test c.same_term.result c.args.a.now c.args.b.now c.same_term.ensures
