use Rattle.std.proofs.Common.{◌≡◌, ◌∙◌, ◌<◌, [], ap, sym, subst}
use Rattle.std.specs.List.{All}
use Rattle.rayon.proofs.ListFacts.{IfOk-then}
use Rattle.wave_base.specs.declared.types.RowId.{RowId}
use Rattle.inspector_run.specs.Pairs.{emitted}
use Rattle.inspector_run.specs.Ready.{IsReady}
use Rattle.inspector_run.specs.Needed.{needed}
use Rattle.inspector_run.proofs.Planned.{earlier_rows, rows_below}
use Rattle.inspector_run.proofs.Kept.{needed_ready, needed_emitted}
use Rattle.inspector_run.proofs.split.pairs_split.Goals as goal

pub pairs_shared-requires-clause-ready : goal.pairs_shared-requires-clause-ready
pairs_shared-requires-clause-ready g c κs within =
    let is : c.as_slice-2.result.now ≡ needed c.args.plan.now.ops = c.as_slice-2.ensures ∙ c.in_ok-ops.ensures {u = tt} ∙ ap needed c.as_slice.ensures in
    subst (λ o. IsReady c.args.arrays.now o []) (sym is) (needed_ready c.args.arrays.now c.args.plan.now.ops c.requires.plan c.requires.ascending)

pub returns-clause-emitted : goal.returns-clause-emitted
returns-clause-emitted g c =
    let a = c.args.arrays.now in
    let is : c.as_slice-2.result.now ≡ needed c.args.plan.now.ops = c.as_slice-2.ensures ∙ c.in_ok-ops.ensures {u = tt} ∙ ap needed c.as_slice.ensures in
    IfOk-then c.pairs_shared.result _ _ c.pairs_shared.ensures (λ v e. e ∙ ap (emitted a) is ∙ needed_emitted a c.args.plan.now.ops c.requires.plan)

pub returns-clause-earlier : goal.returns-clause-earlier
returns-clause-earlier g c =
    let a = c.args.arrays.now in
    let is : c.as_slice-2.result.now ≡ needed c.args.plan.now.ops = c.as_slice-2.ensures ∙ c.in_ok-ops.ensures {u = tt} ∙ ap needed c.as_slice.ensures in
    IfOk-then c.pairs_shared.result _ _ c.pairs_shared.ensures
    (λ v e. subst (All (λ (p : RowId × RowId). p.0.0 < p.1.0)) (sym (e ∙ ap (emitted a) is ∙ needed_emitted a c.args.plan.now.ops c.requires.plan)) (earlier_rows a c.args.plan.now.ops c.requires.plan))

pub returns-clause-rows : goal.returns-clause-rows
returns-clause-rows g c =
    let a = c.args.arrays.now in
    let is : c.as_slice-2.result.now ≡ needed c.args.plan.now.ops = c.as_slice-2.ensures ∙ c.in_ok-ops.ensures {u = tt} ∙ ap needed c.as_slice.ensures in
    IfOk-then c.pairs_shared.result _ _ c.pairs_shared.ensures
    (λ v e. subst (All (λ (p : RowId × RowId). p.1.0 < a.n)) (sym (e ∙ ap (emitted a) is ∙ needed_emitted a c.args.plan.now.ops c.requires.plan)) (rows_below a c.args.plan.now.ops c.requires.plan))
