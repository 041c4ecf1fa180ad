use Rattle.std.proofs.Common.{ℕ, ◌≡◌, ◌⊎◌, ◌^◌, List, Option, None, sym, subst}
use Rattle.std.specs.Prelude.{Vec}
use Rattle.std.specs.declared.alloc.Global.{Global}
use Rattle.wave_main.specs.Files.{AreFetched}
use Rattle.wave_main.specs.Matrices.{vectors_fault}
use Rattle.wave_main.proofs.FileLaws.{match_err}
use Rattle.wave_main.proofs.StageLaws.{accepted_loop, bounds_stop, matrix_stops, vectors_stop}
use Rattle.wave_main.proofs.input.read_files.Goals as goal

pub returns-in_err-nest-clause-answer : goal.returns-in_err-nest-clause-answer
returns-in_err-nest-clause-answer c inputs are same =
    match_err c.from_residual-in_err-nest.result c.in_err-nest.field-0.0 _ _ c.from_residual-in_err-nest.ensures.1
    (bounds_stop inputs c.in_ok-read.read c.in_err-nest.field-0.0 (c.in_ok-read.ensures.answer inputs.loop_file are.loop_is) c.in_err-nest.ensures)

pub returns-in_err-matrix-clause-answer : goal.returns-in_err-matrix-clause-answer
returns-in_err-matrix-clause-answer c inputs are same =
    let loop = accepted_loop inputs c.in_ok-read.read c.in_ok-nest.nest (c.in_ok-read.ensures.answer inputs.loop_file are.loop_is) c.in_ok-nest.ensures in
    match_err c.from_residual-in_err-matrix.result c.in_err-matrix.field-0.0 _ _ c.from_residual-in_err-matrix.ensures.1
    (matrix_stops inputs c.in_ok-nest.nest c.in_err-matrix.field-0.0 loop (c.in_err-matrix.ensures.answer inputs.matrix are.matrix_is))

pub returns-in_err-vectors-clause-answer : goal.returns-in_err-vectors-clause-answer
returns-in_err-vectors-clause-answer c inputs are same =
    let P : List (Option (Vec ℕ Global)) → Type 0 = λ l. AreFetched (2 ^ 28) inputs.vectors l in
    let m = c.in_ok-matrix.ensures.answer inputs.matrix are.matrix_is in
    let loop = accepted_loop inputs c.in_ok-read.read c.in_ok-nest.nest (c.in_ok-read.ensures.answer inputs.loop_file are.loop_is) c.in_ok-nest.ensures in
    match_err c.from_residual-in_err-vectors.result c.in_err-vectors.field-0.0 _ _ c.from_residual-in_err-vectors.ensures.1
    (vectors_stop inputs c.in_ok-nest.nest c.args.first c.in_err-vectors.field-0.0 loop m.0 same
    (c.in_err-vectors.ensures.answer inputs.vectors (subst P (sym c.as_slice.ensures.value) are.vectors_are)))

pub returns-clause-answer : goal.returns-clause-answer
returns-clause-answer c inputs are same =
    let P : List (Option (Vec ℕ Global)) → Type 0 = λ l. AreFetched (2 ^ 28) inputs.vectors l in
    let Fine : ℕ → Type 0 = λ n. vectors_fault n inputs.vectors ≡ None in
    let m = c.in_ok-matrix.ensures.answer inputs.matrix are.matrix_is in
    let v = c.in_ok-vectors.ensures.answer inputs.vectors (subst P (sym c.as_slice.ensures.value) are.vectors_are) in
    let loop = accepted_loop inputs c.in_ok-read.read c.in_ok-nest.nest (c.in_ok-read.ensures.answer inputs.loop_file are.loop_is) c.in_ok-nest.ensures in
    record {
      good = record { is_loop = loop.is; accepted = loop.accepted; matrix_fine = m.0; matrix_is = m.1; vectors_fine = subst Fine (sym same) v.0 };
      vectors_are = v.1;
    }
