use Rattle.std.proofs.Common.{rules, ℤ, sym, subst, w64, FitsSigned}
use Rattle.std.proofs.lemmas.Int.{to_z-of_z}
use Rattle.loop_core.specs.Variables.{bindings}
use Rattle.loop_core.specs.Instances.{Instance, formula}
use Rattle.p2p_exec.specs.declared.run.Run.{Run}
use Rattle.p2p_exec.specs.Putting.{MayPut, Puts}
use Rattle.p2p_exec.proofs.Visits.{may_value, may_put, visits}
use Rattle.p2p_exec.proofs.run.RunVisitor.visit.Goals as goal

pub value-word-requires-clause-may : goal.value-word-requires-clause-may
value-word-requires-clause-may c =
    let s : Instance = record { line = c.args._line; effect = c.args.effect; value = formula c.args.arrays.now (bindings c.args.env.now) c.args.value.now } in
    may_value c.args.self.now s c.requires.may

pub put-requires : goal.put-requires
put-requires c =
    let s : Instance = record { line = c.args._line; effect = c.args.effect; value = formula c.args.arrays.now (bindings c.args.env.now) c.args.value.now } in
    let y : Run = c.value-word.new.self in
    let fits : FitsSigned w64 c.value-word.result = search rules in
    record { may = subst (MayPut y c.args.effect) (sym (to_z-of_z w64 c.value-word.result fits)) (may_put c.args.self.now y s c.value-word.result c.requires.may c.value-word.ensures) }

pub returns : goal.returns
returns c =
    let s : Instance = record { line = c.args._line; effect = c.args.effect; value = formula c.args.arrays.now (bindings c.args.env.now) c.args.value.now } in
    let y : Run = c.value-word.new.self in
    let fits : FitsSigned w64 c.value-word.result = search rules in
    visits c.args.self.now y c.put.new.self s c.value-word.result c.value-word.ensures
    (subst (λ (word : ℤ). Puts y c.args.effect word c.put.new.self) (to_z-of_z w64 c.value-word.result fits) c.put.ensures)
