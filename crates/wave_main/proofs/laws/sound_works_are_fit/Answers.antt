use Rattle.std.proofs.Common.{ℕ, ◌≤◌, subst, sym}
use Rattle.wave_main.proofs.PlanLaws.{one_list_each}
use Rattle.wave_main.proofs.laws.sound_works_are_fit.Goals as goal

pub returns : goal.returns
returns c work sound =
    let input = work.input in
    let each = one_list_each work sound in
    record {
      is_nest = sound.is_nest;
      lengths = sound.lengths;
      inside = c.accesses_are_inside.ensures input.nest input.arrays input.values sound.is_nest sound.accepted sound.lengths sound.passes;
      some_worker = subst (λ (n : ℕ). 1 ≤ n) (sym each) sound.some;
      few_workers = subst (λ (n : ℕ). n ≤ 64) (sym each) sound.few;
      fits = c.plans_fit_the_dependences.ensures input.nest input.arrays input.values work.workers work.plan sound.some sound.plan;
    }
