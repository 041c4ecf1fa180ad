use Rattle.std.proofs.Common.{rules, refl, sym, subst}
use Rattle.dep_simplify.specs.Verdicts.{AreVerdicts}
use Rattle.loop_core.specs.IsNest.{IsNest}
use Rattle.access_bounds.specs.Accepted.{IsAccepted}
use Rattle.wave_main.proofs.work.with_plan.Goals as goal

pub plan_loop-requires-clause-verdicts : goal.plan_loop-requires-clause-verdicts
plan_loop-requires-clause-verdicts g c κs within = subst (AreVerdicts c.args.input.nest) (sym c.as_slice.ensures) c.in_ok-verdicts.ensures.exact

pub plan_loop-requires-clause-lengths : goal.plan_loop-requires-clause-lengths
plan_loop-requires-clause-lengths g c κs within = c.requires.lengths.of_index

pub returns : goal.returns
returns g c =
    let nest : IsNest c.args.input.nest = search rules in
    let accepted : IsAccepted c.args.input.nest = search rules in
    record {
      same = refl;
      verdicts = c.in_ok-verdicts.ensures.exact;
      sound = record {
        is_nest = nest;
        accepted = accepted;
        lengths = c.requires.lengths;
        passes = c.requires.passes;
        some = c.requires.some;
        few = c.requires.few;
        plan = c.in_ok-plan.ensures c.args.input.values c.requires.lengths;
      };
    }
