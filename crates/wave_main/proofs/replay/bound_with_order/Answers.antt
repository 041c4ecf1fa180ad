use Rattle.std.proofs.Common.{◌≡◌, ◌<◌, ◌∙◌, length, arith, refl}
use Rattle.wave_main.specs.Files.{Inputs}
use Rattle.wave_main.specs.declared.input.ReadFiles.{ReadFiles}
use Rattle.wave_main.proofs.FileLaws.{match_err}
use Rattle.wave_main.proofs.InputLaws.{first_vector, others_are_arrays}
use Rattle.wave_main.proofs.replay.bound_with_order.Goals as goal

pub returns-in_err-input-clause-answer : goal.returns-in_err-input-clause-answer
returns-in_err-input-clause-answer c inputs are same one =
    let read : ReadFiles = c.in_ok-read.read in
    let left : ReadFiles = record { nest = read.nest; matrix = read.matrix; vectors = c.remove-entries.new.self } in
    let from = c.in_ok-read.ensures.answer inputs are same in
    let has = others_are_arrays inputs read left c.args.first from refl refl c.remove-entries.ensures.by_index.2 same one in
    match_err c.from_residual-in_err-input.result c.in_err-input.field-0.0 _ _ c.from_residual-in_err-input.ensures.1 (c.in_err-input.ensures.answer inputs has)

pub returns-clause-answer : goal.returns-clause-answer
returns-clause-answer c inputs are same one =
    let read : ReadFiles = c.in_ok-read.read in
    let left : ReadFiles = record { nest = read.nest; matrix = read.matrix; vectors = c.remove-entries.new.self } in
    let from = c.in_ok-read.ensures.answer inputs are same in
    let has = others_are_arrays inputs read left c.args.first from refl refl c.remove-entries.ensures.by_index.2 same one in
    let bound = c.in_ok-input.ensures.answer inputs has in
    let some : 0 < length read.vectors.items = omega (arith, c.in_ok-read.ensures.same, c.requires.some_file) in
    (bound.0, first_vector read.vectors.items _ c.remove-entries.result from.vectors_are some c.remove-entries.ensures.value, bound.1)
