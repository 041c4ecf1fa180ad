use Rattle.std.proofs.Common.{◌∙◌, ap, sym, subst}
use Rattle.array_bind.specs.declared.bind.Bound.{Bound}
use Rattle.array_bind.specs.Lists.{bound_of}
use Rattle.loop_core.specs.declared.nest.Nest.{Nest}
use Rattle.loop_core.specs.IsNest.{IsNest}
use Rattle.loop_core.specs.Lengths.{HaveLengths}
use Rattle.wave_main.proofs.demo.solve_input.Goals as goal

pub bound-requires-clause-is_nest : goal.bound-requires-clause-is_nest
bound-requires-clause-is_nest c = subst IsNest (sym c.nest-2.ensures.nest) c.nest-2.ensures.is_nest

pub returns-clause-arrays : goal.returns-clause-arrays
returns-clause-arrays c =
    let m = c.args.matrix in
    ap (λ (b : Bound). b.arrays) (c.in_ok-bound.ensures.answer.1 ∙ ap (λ (n : Nest). bound_of n.decls m.rows m.entries c.in_ok-vectors.vectors.items) c.nest-2.ensures.nest ∙ ap (bound_of c.args.nest.decls m.rows m.entries) c.in_ok-vectors.ensures)

pub returns-clause-values : goal.returns-clause-values
returns-clause-values c =
    let m = c.args.matrix in
    ap (λ (b : Bound). b.values) (c.in_ok-bound.ensures.answer.1 ∙ ap (λ (n : Nest). bound_of n.decls m.rows m.entries c.in_ok-vectors.vectors.items) c.nest-2.ensures.nest ∙ ap (bound_of c.args.nest.decls m.rows m.entries) c.in_ok-vectors.ensures)

pub returns-clause-lengths : goal.returns-clause-lengths
returns-clause-lengths c =
    let P : Nest → Type 0 = λ n. HaveLengths n.decls c.in_ok-bound.bound.arrays c.in_ok-bound.bound.values in subst P c.nest-2.ensures.nest c.in_ok-bound.ensures.lengths
