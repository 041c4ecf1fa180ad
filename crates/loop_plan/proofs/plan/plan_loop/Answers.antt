use Rattle.std.proofs.Common.{ℕ, ◌≡◌, ◌∙◌, sym, subst, ap, List}
use Rattle.std.specs.List.{All}
use Rattle.std.proofs.lemmas.Result.{IfOk-weaker}
use Rattle.loop_core.specs.declared.nest.Nest.{Nest}
use Rattle.loop_meaning.specs.Weights.{row_weights}
use Rattle.super_tasks.specs.Shares.{AreWeights}
use Rattle.plan_build.specs.Plan.{IsPlan}
use Rattle.loop_plan.specs.Kept.{IsOfRows}
use Rattle.loop_plan.proofs.Weighing.{are_weights}
use Rattle.loop_plan.proofs.plan.plan_loop.Goals as goal

pub build-requires-clause-earlier : goal.build-requires-clause-earlier
build-requires-clause-earlier g c = c.in_ok-pairs.ensures.earlier

pub build-requires-clause-rows : goal.build-requires-clause-rows
build-requires-clause-rows g c = subst (λ (n : ℕ). All (IsOfRows n) c.in_ok-pairs.pairs.items) (sym c.n.ensures) c.in_ok-pairs.ensures.rows

pub build-requires-clause-weights : goal.build-requires-clause-weights
build-requires-clause-weights g c =
    let same : c.as_slice.result.now ≡ row_weights c.args.arrays.now c.args.loop_in.now = c.as_slice.ensures.value ∙ c.in_ok-weights.ensures ∙ ap (row_weights c.args.arrays.now) c.nest.ensures.nest in
    let are = are_weights c.args.loop_in.now c.args.arrays.now in
    subst (λ (z : ℕ × List ℕ). AreWeights z.0 z.1) (λ i. (sym c.n.ensures i, sym same i)) are

pub returns : goal.returns
returns g c =
    let nest = c.args.loop_in.now in
    let a = c.args.arrays.now in
    let pairs = c.in_ok-pairs.pairs.items in
    let same : c.as_slice.result.now ≡ row_weights a nest = c.as_slice.ensures.value ∙ c.in_ok-weights.ensures ∙ ap (row_weights a) c.nest.ensures.nest in
    IfOk-weaker c.build.result (IsPlan c.n.result pairs c.as_slice.result.now c.args.workers) _
    (λ built plan x lengths.
    (let law = c.dependences_are_pairs_of_kept_relations.ensures nest c.args.verdicts.now a x c.nest.ensures.is_nest c.nest.ensures.accepted c.requires.verdicts lengths c.requires.passes in
    record {
      pairs = pairs;
      dependent = λ i j. (
        λ h. (law i.0 j.0).1 ((c.in_ok-pairs.ensures.same i j).0 h),
        λ h. (c.in_ok-pairs.ensures.same i j).1 ((law i.0 j.0).0 h),
      );
      plan = subst (λ (z : ℕ × List ℕ). IsPlan z.0 pairs z.1 c.args.workers built) (λ i. (c.n.ensures i, same i)) plan;
    })) c.build.ensures.plan
