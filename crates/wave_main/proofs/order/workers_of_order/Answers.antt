use Rattle.std.proofs.Common.{rules, ◌≡◌, ◌<◌, ◌∙◌, ◌⊎◌, inr, ℤ, SFits, length, arith, ap, subst, sym}
use Rattle.std.proofs.lemmas.Int.{to_z-of_z}
use mir.Syntax.{w64}
use Rattle.std.proofs.lemmas.Bool.Decides.{nat_tests}
use Rattle.std.proofs.lemmas.List.Elements.{All-push}
use Rattle.std.proofs.lemmas.Option.{slice_get_within}
use Rattle.std.specs.List.{All}
use Rattle.loop_core.specs.Instances.{natural}
use Rattle.wave_main.specs.Orders.{IsNumber}
use Rattle.wave_main.specs.declared.status.Status.TheVariants.{Shape}
use Rattle.wave_main.specs.declared.status.ShapeKind.TheVariants.{Order}
use Rattle.wave_main.proofs.FileLaws.{match_err}
use Rattle.wave_main.proofs.Ordering.{one_more_whole, one_more_number, is_odd, whole_order}
use Rattle.wave_main.proofs.order.workers_of_order.Goals as goal

pub returns-in_err-worker : goal.returns-in_err-worker
returns-in_err-worker c =
    let fits : SFits w64 c.entry_at-entry.result = search rules in
    let same = to_z-of_z w64 c.entry_at-entry.result fits in
    let Odd : ℤ → Type 0 = λ z. (IsNumber c.args.workers z → ⊥) × (c.in_err-worker.field-0.0 ≡ Shape (Order c.loop-place.place z)) in
    match_err c.from_residual.result c.in_err-worker.field-0.0 _ _ c.from_residual.ensures.1
    (inr (is_odd c.args.workers c.args.entries.now c.loop-place.place c.entry_at-entry.result c.in_err-worker.field-0.0 c.entry_at-entry.ensures c.loop-place.invariant.numbers (subst Odd same c.in_err-worker.ensures)))

pub loop-place-preserved : goal.loop-place-preserved
loop-place-preserved c =
    let lt : c.loop-place.place < length c.args.entries.now = c.loop-place-test.true in
    let fits : SFits w64 c.entry_at-entry.result = search rules in
    let same = to_z-of_z w64 c.entry_at-entry.result fits in
    record {
      whole = one_more_whole c.args.entries.now c.loop-place.place c.entry_at-entry.result c.in_ok-worker.worker c.loop-place.order.items c.push.new.self.items lt c.entry_at-entry.ensures (c.in_ok-worker.ensures.0 ∙ ap natural same) c.in_ok-push.ensures.items c.loop-place.invariant.whole;
      few = subst (All (λ k. k < c.args.workers)) (sym c.in_ok-push.ensures.items) (All-push (λ k. k < c.args.workers) c.loop-place.order.items c.in_ok-worker.worker c.loop-place.invariant.few c.in_ok-worker.ensures.1);
      numbers = one_more_number c.args.workers c.args.entries.now c.loop-place.place c.entry_at-entry.result c.entry_at-entry.ensures (subst (IsNumber c.args.workers) same c.in_ok-worker.ensures.2) c.loop-place.invariant.numbers;
    }

pub returns : goal.returns
returns c =
    let end : length c.args.entries.now ≡ c.loop-place.place = omega (arith, nat_tests, c.loop-place-test.false, c.loop-place.auto.place-end) in (
      whole_order c.args.entries.now c.loop-place.place c.loop-place.order.items end c.loop-place.invariant.whole,
      c.loop-place.invariant.few,
      λ place value at. c.loop-place.invariant.numbers place value (let lt = slice_get_within c.args.entries.now place value at in omega (arith, lt, end)) at,
    )
