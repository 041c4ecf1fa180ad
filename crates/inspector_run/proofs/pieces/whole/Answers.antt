use Rattle.std.proofs.Common.{rules, ◌≡◌, ◌+◌, ◌≤◌, [], length, sym, ap, ◌∙◌, subst, arith, unsigned_abs}
use Rattle.loop_core.specs.declared.env.Env.TheVariants.{Empty}
use Rattle.loop_core.specs.declared.env.Env.TheFolds.{the_lemmas as of_env}
use Rattle.loop_core.specs.Terms.{term_value}
use Rattle.loop_core.specs.Variables.{bindings}
use Rattle.inspector_run.specs.Tries.{numbers_between}
use Rattle.inspector_run.specs.Ready.{reach, AreNear}
use Rattle.inspector_run.specs.Pieces.{values_in}
use Rattle.inspector_run.proofs.Near.{numbers_near}
use Rattle.inspector_run.proofs.pieces.whole.Goals as goal

pub returns-clause-values : goal.returns-clause-values
returns-clause-values g c =
    let a = c.args.arrays.now in
    let none : bindings Empty ≡ [] = search (rules, of_env) in
    let lo = c.value_of-next.result in
    let hi = c.value_of-end.result in
    let is : c.up_to.result ≡ record { next = lo; end = hi } = search rules in
    let low : lo ≡ term_value a [] c.args.lo.now = c.value_of-next.ensures.value ∙ ap (λ e. term_value a e c.args.lo.now) none in
    let high : hi ≡ term_value a [] c.args.hi.now = c.value_of-end.ensures.value ∙ ap (λ e. term_value a e c.args.hi.now) none in
    ap values_in is ∙ ap (λ x. numbers_between x hi) low ∙ ap (numbers_between (term_value a [] c.args.lo.now)) high

pub returns-clause-near : goal.returns-clause-near
returns-clause-near g c =
    let none : bindings Empty ≡ [] = search (rules, of_env) in
    let lo = c.value_of-next.result in
    let hi = c.value_of-end.result in
    let is : c.up_to.result ≡ record { next = lo; end = hi } = search rules in
    let low : unsigned_abs lo ≤ reach 0 + unsigned_abs c.args.lo.now.plus = subst (λ k. unsigned_abs lo ≤ reach k + unsigned_abs c.args.lo.now.plus) (ap length none) c.value_of-next.ensures.within in
    let high : unsigned_abs hi ≤ reach 0 + unsigned_abs c.args.hi.now.plus = subst (λ k. unsigned_abs hi ≤ reach k + unsigned_abs c.args.hi.now.plus) (ap length none) c.value_of-end.ensures.within in
    subst (λ p. AreNear 0 (values_in p)) (sym is) (numbers_near 0 lo hi (omega (arith, low, c.requires.low)) (omega (arith, high, c.requires.high)))
