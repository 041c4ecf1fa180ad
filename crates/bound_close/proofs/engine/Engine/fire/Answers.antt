use Rattle.std.proofs.Common.{rules, ◌≡◌, slice_set, refl, true}
use Rattle.std.specs.Vec.{with_item}
use Rattle.bound_close.specs.declared.engine.Engine.{Engine}
use Rattle.bound_close.proofs.Passing.{fire-onwards, fired-now, fired-covered}
use Rattle.bound_close.proofs.engine.Engine.fire.Goals as goal

pub returns-then-not-branch-clause-stopped : goal.returns-then-not-branch-clause-stopped
returns-then-not-branch-clause-stopped c = λ _. c.in_ok-fire.ensures.stopped c.if-not-branch.true

pub returns-clause-onwards : goal.returns-clause-onwards
returns-clause-onwards c = λ _.
    let new : Engine = record { workings = c.fire.new.self; fired = with_item c.args.self.now.fired c.args.rule true; queues = c.args.self.now.queues } in
    let items : new.fired.items ≡ slice_set c.args.self.now.fired.items c.args.rule true = search rules in
    fire-onwards c.args.atoms.now c.args.rules.now c.requires.over c.args.self.now new c.args.rule c.requires.tended c.requires.rule c.requires.first (c.in_ok-fire.ensures.forward c.if-not-branch.false) (c.in_ok-fire.ensures.holds c.if-not-branch.false) items refl

pub returns-clause-covered : goal.returns-clause-covered
returns-clause-covered c = λ _.
    let new : Engine = record { workings = c.fire.new.self; fired = with_item c.args.self.now.fired c.args.rule true; queues = c.args.self.now.queues } in
    let items : new.fired.items ≡ slice_set c.args.self.now.fired.items c.args.rule true = search rules in
    fired-covered c.args.atoms.now c.args.rules.now new c.args.rule (fired-now c.args.atoms.now c.args.rules.now c.requires.over c.args.self.now new c.args.rule c.requires.tended c.requires.rule c.requires.first (c.in_ok-fire.ensures.forward c.if-not-branch.false) (c.in_ok-fire.ensures.holds c.if-not-branch.false) items refl)
