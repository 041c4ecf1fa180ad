use Rattle.std.proofs.Common.{ℕ, ◌∙◌, ◌++◌, ap}
use Rattle.std.specs.Prelude.{Vec}
use Rattle.std.specs.declared.alloc.Global.{Global}
use Rattle.wave_report.specs.declared.counts.Summary.{Summary}
use Rattle.wave_report.specs.PlanText.{plan_text}
use Rattle.wave_report.specs.SummaryText.{summary_text}
use Rattle.wave_main.proofs.plan.plan_text.Goals as goal

pub returns : goal.returns
returns g c inputs are same none =
    let made = c.in_ok-planned.ensures.answer inputs are same none in
    let plan = c.in_ok-planned.planned.plan in (
      (
        c.in_ok-planned.planned,
        made.0,
        ap (λ (v : Vec ℕ Global). v.items) c.into_bytes.ensures.value ∙ c.in_ok-put_tasks.ensures ∙ ap (λ t. t ++ plan_text plan.chain plan.sched) c.in_ok-text.ensures
            ∙ ap (λ (s : Summary). summary_text s ++ plan_text plan.chain plan.sched) c.in_ok-numbers.ensures,
      ),
      made.1,
    )
