use Rattle.std.proofs.Common.{◌≡◌, ◌∙◌, ℕ, ℤ, List, [], ◌∷◌, ap, arith, drop, inl, refl, sym, subst}
use Rattle.wave_main.specs.Binding.{array_vectors, array_word}
use Rattle.wave_main.specs.Files.{Inputs}
use Rattle.wave_main.specs.Matrices.{vectors_of}
use Rattle.wave_main.specs.Reading.{HasArrays, IsReadFrom}
use Rattle.wave_main.specs.Stages.{OfProperties, array_stages}
use Rattle.wave_main.specs.declared.input.ReadFiles.{ReadFiles}
use Rattle.wave_main.proofs.FileLaws.{match_err}
use Rattle.wave_main.proofs.InputLaws.{all_arrays, property_stops}
use Rattle.wave_main.proofs.StageLaws.{accept_both, stopped_early, stopped_late}
use Rattle.wave_main.proofs.input.input_of.Goals as goal

pub returns-in_err-read-clause-answer : goal.returns-in_err-read-clause-answer
returns-in_err-read-clause-answer c inputs are same none =
    match_err c.from_residual.result c.in_err-read.field-0.0 _ _ c.from_residual.ensures.1
    (stopped_early array_stages (OfProperties ∷ []) inputs c.in_err-read.field-0.0 (c.in_err-read.ensures.answer inputs are same))

pub returns-in_err-input-clause-answer : goal.returns-in_err-input-clause-answer
returns-in_err-input-clause-answer c inputs are same none =
    let has = all_arrays inputs c.in_ok-read.read c.args.first (c.in_ok-read.ensures.answer inputs are same) same none in
    match_err c.from_residual-in_err-input.result c.in_err-input.field-0.0 _ _ c.from_residual-in_err-input.ensures.1
    (stopped_early array_stages (OfProperties ∷ []) inputs c.in_err-input.field-0.0 (c.in_err-input.ensures.answer inputs has))

pub returns-in_err-check_properties-clause-answer : goal.returns-in_err-check_properties-clause-answer
returns-in_err-check_properties-clause-answer c inputs are same none =
    let has = all_arrays inputs c.in_ok-read.read c.args.first (c.in_ok-read.ensures.answer inputs are same) same none in
    let bound = c.in_ok-input.ensures.answer inputs has in
    match_err c.from_residual-in_err-check_properties.result c.in_err-check_properties.field-0.0 _ _ c.from_residual-in_err-check_properties.ensures.1
    (stopped_late array_stages (OfProperties ∷ []) inputs c.in_err-check_properties.field-0.0 bound.1 (property_stops inputs c.in_err-check_properties.field-0.0 (c.in_err-check_properties.ensures.answer inputs bound.0)))

pub returns-clause-answer : goal.returns-clause-answer
returns-clause-answer c inputs are same none =
    let has = all_arrays inputs c.in_ok-read.read c.args.first (c.in_ok-read.ensures.answer inputs are same) same none in
    let bound = c.in_ok-input.ensures.answer inputs has in
    (bound.0, accept_both array_stages (OfProperties ∷ []) inputs bound.1 (c.in_ok-check_properties.ensures.answer inputs bound.0, tt))
