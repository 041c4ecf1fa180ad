use Rattle.std.proofs.lemmas.Int.{to_z-of_z}
use Rattle.std.proofs.Common.{SFits, w64, rules, ◌∙◌, ◌+◌, ◌-◌, ◌<◌, ◌≤◌, ℕ, arith}
use Rattle.core_book.specs.Hows.{how_at}
use Rattle.core_book.proofs.Going.{starts, fits, goes_on, ends, caught, value_is}
use Rattle.core_book.proofs.row.Row.value.Goals as goal

pub loop-place-init : goal.loop-place-init
loop-place-init c = starts c.args.book.now c.args.hows.now c.args.registers.now (c.args.at - (how_at c.args.hows.now c.args.at).before) c.turn_to.new.self c.turn_to.ensures.first
    (c.turn_to.ensures.caught c.args.book.now c.args.hows.now c.args.registers.now c.requires.caught)

pub step-requires-clause-count : goal.step-requires-clause-count
step-requires-clause-count c = let i = c.loop-place.invariant in let n = i.count_is in let l = c.loop-place-test.true in let b = c.requires.before in let t = c.requires.there in omega arith

pub step-requires-clause-used : goal.step-requires-clause-used
step-requires-clause-used c =
    let h = fits c.args.book.now c.args.hows.now c.args.registers.now (c.args.at - (how_at c.args.hows.now c.args.at).before) c.loop-place.place (how_at c.args.hows.now c.args.at).before c.loop-place.self
    c.loop-place.invariant c.loop-place-test.true c.requires.enough in omega arith

pub loop-place-preserved : goal.loop-place-preserved
loop-place-preserved c = goes_on c.args.book.now c.args.hows.now c.args.registers.now (c.args.at - (how_at c.args.hows.now c.args.at).before) c.loop-place.place c.loop-place.self c.step.new.self
    c.loop-place.invariant c.step.ensures.first c.step.ensures.count c.step.ensures.step

pub returns-clause-value : goal.returns-clause-value
returns-clause-value c = let fits' : SFits w64 c.value.result = search rules in let before : ℕ = (how_at c.args.hows.now c.args.at).before in let first : ℕ = c.args.at - before in
    to_z-of_z w64 c.value.result fits' ∙ (c.value.ensures ∙ value_is c.args.book.now c.args.hows.now c.args.registers.now first before (how_at c.args.hows.now c.args.at) c.loop-place.self
    (ends c.args.book.now c.args.hows.now c.args.registers.now first c.loop-place.place before c.loop-place.self c.loop-place.invariant (λ l. let t = c.loop-place-test.false in omega arith) (let t = c.loop-place.auto.place-end in omega arith)))

pub returns-clause-caught : goal.returns-clause-caught
returns-clause-caught c = let before : ℕ = (how_at c.args.hows.now c.args.at).before in let first : ℕ = c.args.at - before in
    caught c.args.book.now c.args.hows.now c.args.registers.now first before c.loop-place.self
    (ends c.args.book.now c.args.hows.now c.args.registers.now first c.loop-place.place before c.loop-place.self c.loop-place.invariant (λ l. let t = c.loop-place-test.false in omega arith) (let t = c.loop-place.auto.place-end in omega arith)) c.requires.enough
