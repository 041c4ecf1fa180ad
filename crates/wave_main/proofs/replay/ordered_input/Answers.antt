use Rattle.std.proofs.Common.{◌≡◌, ◌∙◌, [], ◌∷◌, ℤ, List, Some, slice_get, ap, subst, sym}
use Rattle.wave_main.specs.Orders.{order_numbers, order_of}
use Rattle.wave_main.specs.Matrices.{vectors_of}
use Rattle.wave_main.specs.Stages.{OfOrder, OfProperties, array_stages}
use Rattle.wave_main.proofs.FileLaws.{match_err}
use Rattle.wave_main.proofs.InputLaws.{order_stops, order_accepted, property_after_order, same_disorder}
use Rattle.wave_main.proofs.StageLaws.{accept_both, stopped_early, stopped_late}
use Rattle.wave_main.proofs.replay.ordered_input.Goals as goal

pub returns-in_err-input-clause-answer : goal.returns-in_err-input-clause-answer
returns-in_err-input-clause-answer c inputs are same one =
    match_err c.from_residual.result c.in_err-input.field-0.0 _ _ c.from_residual.ensures.1
    (stopped_early array_stages (OfOrder c.args.workers ∷ OfProperties ∷ []) inputs c.in_err-input.field-0.0 (c.in_err-input.ensures.answer inputs are same one))

pub returns-in_err-order-clause-answer : goal.returns-in_err-order-clause-answer
returns-in_err-order-clause-answer c inputs are same one =
    let bound = c.in_ok-input.ensures.answer inputs are same one in
    let entries : c.as_slice.result.now ≡ order_of (vectors_of inputs.vectors) = c.as_slice.ensures ∙ bound.1 in
    match_err c.from_residual-in_err-order.result c.in_err-order.field-0.0 _ _ c.from_residual-in_err-order.ensures.1
    (stopped_late array_stages (OfOrder c.args.workers ∷ OfProperties ∷ []) inputs c.in_err-order.field-0.0 bound.2
    (order_stops inputs c.args.workers c.in_err-order.field-0.0 (same_disorder inputs c.args.workers c.as_slice.result.now entries c.in_err-order.field-0.0 c.in_err-order.ensures)))

pub returns-in_err-check_properties-clause-answer : goal.returns-in_err-check_properties-clause-answer
returns-in_err-check_properties-clause-answer c inputs are same one =
    let bound = c.in_ok-input.ensures.answer inputs are same one in
    let entries : c.as_slice.result.now ≡ order_of (vectors_of inputs.vectors) = c.as_slice.ensures ∙ bound.1 in
    let fine = order_accepted inputs c.args.workers c.as_slice.result.now entries c.in_ok-order.ensures.2 in
    match_err c.from_residual-in_err-check_properties.result c.in_err-check_properties.field-0.0 _ _ c.from_residual-in_err-check_properties.ensures.1
    (stopped_late array_stages (OfOrder c.args.workers ∷ OfProperties ∷ []) inputs c.in_err-check_properties.field-0.0 bound.2
    (property_after_order inputs c.args.workers c.in_err-check_properties.field-0.0 fine (c.in_err-check_properties.ensures.answer inputs bound.0)))

pub returns-clause-answer : goal.returns-clause-answer
returns-clause-answer c inputs are same one =
    let bound = c.in_ok-input.ensures.answer inputs are same one in
    let entries : c.as_slice.result.now ≡ order_of (vectors_of inputs.vectors) = c.as_slice.ensures ∙ bound.1 in
    let fine = order_accepted inputs c.args.workers c.as_slice.result.now entries c.in_ok-order.ensures.2 in (
      record { input = bound.0; order = c.in_ok-order.ensures.0 ∙ ap order_numbers entries },
      accept_both array_stages (OfOrder c.args.workers ∷ OfProperties ∷ []) inputs bound.2 (fine, (c.in_ok-check_properties.ensures.answer inputs bound.0, tt)),
    )
