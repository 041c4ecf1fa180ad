use Rattle.std.proofs.Common.{ℤ, pos, w64, rules, arith, ◌∙◌, FitsSigned}
use Rattle.std.specs.Prelude.{slice_index_or}
use Rattle.std.proofs.lemmas.Int.{to_z-of_z}
use Rattle.wave_main.proofs.DemoLaws.{total_all, total_next}
use Rattle.wave_main.proofs.demo.total.Goals as goal

pub loop-word-preserved : goal.loop-word-preserved
loop-word-preserved c =
    let words = c.args.words.now in
    let i = c.loop-word.word-index in
    let x : ℤ = slice_index_or words i (pos 0) in
    let range : FitsSigned w64 x = search rules in
    let fits : FitsSigned w64 c.add-sum.result = search rules in
    let sum = simp to_z-of_z at c.add-sum.ensures in
    to_z-of_z w64 c.add-sum.result fits ∙ total_next words i _ _ (omega arith) c.loop-word.invariant sum

pub returns : goal.returns
returns c = total_all c.args.words.now c.loop-word.word-index _ (omega arith) c.loop-word.invariant
