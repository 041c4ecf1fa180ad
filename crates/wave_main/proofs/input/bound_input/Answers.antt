use Rattle.std.proofs.Common.{◌≡◌, ◌⊎◌, Some, None, refl, sym, subst}
use Rattle.loop_core.specs.declared.nest.Nest.{Nest}
use Rattle.loop_core.specs.IsNest.{IsNest}
use Rattle.loop_core.specs.Lengths.{HaveLengths}
use Rattle.array_bind.specs.Lists.{bound_of}
use Rattle.wave_main.specs.declared.input.Input.{Input}
use Rattle.wave_main.specs.declared.status.Status.TheVariants.{Memory}
use Rattle.wave_main.specs.Binding.{binding_fault}
use Rattle.wave_main.specs.Reading.{parts_of}
use Rattle.wave_main.proofs.FileLaws.{match_err}
use Rattle.wave_main.proofs.StageLaws.{shapes_stop, bound_files}
use Rattle.wave_main.proofs.input.bound_input.Goals as goal

pub bound-requires-clause-is_nest : goal.bound-requires-clause-is_nest
bound-requires-clause-is_nest c = subst IsNest (sym c.nest-2.ensures.nest) c.nest-2.ensures.is_nest

pub returns-in_err-bound-clause-answer : goal.returns-in_err-bound-clause-answer
returns-in_err-bound-clause-answer c inputs has =
    let read = c.args.read in
    let Misfit : Nest → Type 0 = λ n. (c.in_err-bound.field-0.0 ≡ Memory) ⊎ (binding_fault c.args.word n.decls (parts_of read) read.vectors.items ≡ Some c.in_err-bound.field-0.0) in
    match_err c.from_residual.result c.in_err-bound.field-0.0 _ _ c.from_residual.ensures.1
    (shapes_stop inputs read c.args.word has c.in_err-bound.field-0.0 (subst Misfit c.nest-2.ensures.nest c.in_err-bound.ensures.answer))

pub returns-clause-answer : goal.returns-clause-answer
returns-clause-answer c inputs has =
    let read = c.args.read in
    let input : Input = record { nest = read.nest; arrays = c.in_ok-bound.bound.arrays; values = c.in_ok-bound.bound.values } in
    let Fits : Nest → Type 0 = λ n. binding_fault c.args.word n.decls (parts_of read) read.vectors.items ≡ None in
    let Gives : Nest → Type 0 = λ n. c.in_ok-bound.bound ≡ bound_of n.decls read.matrix.rows read.matrix.entries read.vectors.items in
    bound_files inputs read c.args.word has input c.in_ok-bound.bound (subst Fits c.nest-2.ensures.nest c.in_ok-bound.ensures.answer.0) (subst Gives c.nest-2.ensures.nest c.in_ok-bound.ensures.answer.1) refl refl refl

pub returns-clause-lengths : goal.returns-clause-lengths
returns-clause-lengths c =
    let P : Nest → Type 0 = λ n. HaveLengths n.decls c.in_ok-bound.bound.arrays c.in_ok-bound.bound.values in subst P c.nest-2.ensures.nest c.in_ok-bound.ensures.lengths
