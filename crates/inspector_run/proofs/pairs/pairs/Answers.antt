use Rattle.std.proofs.Common.{◌≡◌, ◌∙◌, ◌+◌, ◌<◌, ◌≤◌, [], ap, sym, subst}
use Rattle.std.specs.List.{All}
use Rattle.rayon.proofs.ListFacts.{IfOk-then}
use Rattle.wave_base.specs.declared.types.RowId.{RowId}
use Rattle.inspector_run.specs.Pairs.{emitted}
use Rattle.inspector_run.specs.Ready.{IsReady}
use Rattle.inspector_run.specs.Ticks.{most_ticks}
use Rattle.inspector_run.specs.Needed.{needed}
use Rattle.inspector_run.proofs.Planned.{earlier_rows, rows_below}
use Rattle.inspector_run.proofs.Kept.{needed_ready, needed_emitted, needed_ticks}
use Rattle.inspector_run.proofs.pairs.pairs.Goals as goal

pub all_pairs-requires : goal.all_pairs-requires
all_pairs-requires g c =
    let is : c.as_slice-2.result.now ≡ needed c.args.plan.now.ops = c.as_slice-2.ensures ∙ c.in_ok-ops.ensures {u = tt} ∙ ap needed c.as_slice.ensures in
    subst (λ o. IsReady c.args.arrays.now o []) (sym is) (needed_ready c.args.arrays.now c.args.plan.now.ops c.requires.plan c.requires.ascending)

pub returns-clause-emitted : goal.returns-clause-emitted
returns-clause-emitted g c =
    let a = c.args.arrays.now in
    let is : c.as_slice-2.result.now ≡ needed c.args.plan.now.ops = c.as_slice-2.ensures ∙ c.in_ok-ops.ensures {u = tt} ∙ ap needed c.as_slice.ensures in
    IfOk-then c.all_pairs.result _ _ c.all_pairs.ensures.emitted (λ v e. e ∙ ap (emitted a) is ∙ needed_emitted a c.args.plan.now.ops c.requires.plan)

pub returns-clause-ticks : goal.returns-clause-ticks
returns-clause-ticks g c =
    let a = c.args.arrays.now in
    let is : c.as_slice-2.result.now ≡ needed c.args.plan.now.ops = c.as_slice-2.ensures ∙ c.in_ok-ops.ensures {u = tt} ∙ ap needed c.as_slice.ensures in
    needed_ticks a c.args.plan.now.ops c.args.steps.now c.all_pairs.new.steps c.requires.plan
    (subst (λ o. c.all_pairs.new.steps ≤ c.args.steps.now + most_ticks a o) is c.all_pairs.ensures.ticks)

pub returns-clause-earlier : goal.returns-clause-earlier
returns-clause-earlier g c =
    let a = c.args.arrays.now in
    let is : c.as_slice-2.result.now ≡ needed c.args.plan.now.ops = c.as_slice-2.ensures ∙ c.in_ok-ops.ensures {u = tt} ∙ ap needed c.as_slice.ensures in
    IfOk-then c.all_pairs.result _ _ c.all_pairs.ensures.emitted
    (λ v e. subst (All (λ (p : RowId × RowId). p.0.0 < p.1.0)) (sym (e ∙ ap (emitted a) is ∙ needed_emitted a c.args.plan.now.ops c.requires.plan)) (earlier_rows a c.args.plan.now.ops c.requires.plan))

pub returns-clause-rows : goal.returns-clause-rows
returns-clause-rows g c =
    let a = c.args.arrays.now in
    let is : c.as_slice-2.result.now ≡ needed c.args.plan.now.ops = c.as_slice-2.ensures ∙ c.in_ok-ops.ensures {u = tt} ∙ ap needed c.as_slice.ensures in
    IfOk-then c.all_pairs.result _ _ c.all_pairs.ensures.emitted
    (λ v e. subst (All (λ (p : RowId × RowId). p.1.0 < a.n)) (sym (e ∙ ap (emitted a) is ∙ needed_emitted a c.args.plan.now.ops c.requires.plan)) (rows_below a c.args.plan.now.ops c.requires.plan))
