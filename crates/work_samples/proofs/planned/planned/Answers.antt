use Rattle.std.proofs.Common.{ℕ, ◌≤◌, subst, sym}
use Rattle.work_samples.proofs.OneEach.{one_each}
use Rattle.work_samples.proofs.planned.planned.Goals as goal

pub returns-clause-fit : goal.returns-clause-fit
returns-clause-fit g c =
    let nest = c.args.nest in
    let a = c.args.bound.arrays in
    let x = c.args.bound.values in
    let built = c.in_ok-built.built in
    let plan = c.in_ok-built.ensures.plan x c.requires.lengths in
    let each = one_each _ _ _ c.args.workers built plan.plan in
    record {
      is_nest = c.requires.is_nest;
      lengths = c.requires.lengths;
      inside = c.accesses_are_inside.ensures nest a x c.requires.is_nest c.in_ok-built.ensures.accepted c.requires.lengths c.in_ok-built.ensures.passes;
      some_worker = subst (λ (n : ℕ). 1 ≤ n) (sym each) c.requires.some;
      few_workers = subst (λ (n : ℕ). n ≤ 64) (sym each) c.requires.few;
      fits = c.plans_fit_the_dependences.ensures nest a x c.args.workers built c.requires.some plan;
    }
