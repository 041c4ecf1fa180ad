use Rattle.std.proofs.Common.{ℕ, ◌+◌, ◌≡◌, true}
use Rattle.bound_close.specs.Waits.{Looked}
use Rattle.bound_ways.proofs.Bounding.{if-ok-map}
use Rattle.bound_close.proofs.Passing.{pair-quiet}
use Rattle.bound_close.proofs.engine.Engine.look_if_lowered.Goals as goal

pub returns-then-not-was_lowered-clause-looked : goal.returns-then-not-was_lowered-clause-looked
returns-then-not-was_lowered-clause-looked c = λ _. pair-quiet c.args.atoms.now c.args.rules.now c.args.self.now c.args.since c.args.x c.args.y c.requires.tended (c.was_lowered.ensures.no c.if-not-was_lowered.true)

pub returns-clause-looked : goal.returns-clause-looked
returns-clause-looked c =
    if-ok-map c.look_at_pair.result (λ fine. fine ≡ true → (since : ℕ) → Looked c.args.atoms.now c.args.rules.now since c.args.x c.args.y c.args.x (c.args.y + 1) c.args.self.now c.look_at_pair.new.self) (λ fine. fine ≡ true → Looked c.args.atoms.now c.args.rules.now c.args.since c.args.x c.args.y c.args.x (c.args.y + 1) c.args.self.now c.look_at_pair.new.self) c.look_at_pair.ensures.looked
    (λ fine f t. f t c.args.since)
