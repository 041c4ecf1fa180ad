use Rattle.std.proofs.Common.{sym, subst, List}
use Rattle.loop_core.specs.declared.nest.Atom.{Atom}
use Rattle.bound_close.specs.Closure.{IsBound}
use Rattle.bound_close.proofs.Orders.{plain-empty, same-answers, same-itself}
use Rattle.bound_close.proofs.order.same_answers.Goals as goal

pub returns-clause-empty : goal.returns-clause-empty
returns-clause-empty c = λ base rules h i e. plain-empty c.args.first.now c.args.second.now base rules e h i

pub returns-clause-bound : goal.returns-clause-bound
returns-clause-bound c = λ base rules a b one two e h i. same-answers c.args.first.now.atoms base base rules (same-itself base) a b one two h (subst (λ (u : List Atom). IsBound u base rules a b two) (sym e) i)
