use Rattle.std.proofs.Common.{sym, subst, List}
use Rattle.loop_core.specs.declared.nest.Atom.{Atom}
use Rattle.bound_close.specs.Closure.{IsBound}
use Rattle.bound_close.proofs.Orders.{same-empty, same-answers}
use Rattle.bound_close.proofs.order.same_in_any_order.Goals as goal

pub returns-clause-empty : goal.returns-clause-empty
returns-clause-empty c = λ base other rules h i e s. same-empty c.args.first.now c.args.second.now base other rules e s h i

pub returns-clause-bound : goal.returns-clause-bound
returns-clause-bound c = λ base other rules a b one two e s n h i. same-answers c.args.first.now.atoms base other rules s a b one two h (subst (λ (u : List Atom). IsBound u other rules a b two) (sym e) i)
