use Rattle.dep_simplify.proofs.judge.by_covers.Goals as goal

pub returns-in-None : goal.returns-in-None
returns-in-None c = λ base rules o. (o.consistent, c.in-None.ensures base rules o)
