use Rattle.std.proofs.Common.{refl}
use Rattle.bound_close.specs.declared.engine.Engine.{Engine}
use Rattle.bound_close.proofs.Passing.{put-onwards, put-covered}
use Rattle.bound_close.proofs.engine.Engine.visit.Goals as goal

pub returns-then-is_above-clause-onwards : goal.returns-then-is_above-clause-onwards
returns-then-is_above-clause-onwards c = λ _.
    let new : Engine = record { workings = c.args.self.now.workings; fired = c.args.self.now.fired; queues = c.put.new.self } in
    put-onwards c.args.atoms.now c.args.rules.now c.args.self.now new c.args.waiting c.requires.tended c.requires.waits (c.is_above.ensures.above c.if-is_above.true) refl refl c.in_ok-put.ensures

pub returns-then-is_above-clause-covered : goal.returns-then-is_above-clause-covered
returns-then-is_above-clause-covered c = λ _.
    let new : Engine = record { workings = c.args.self.now.workings; fired = c.args.self.now.fired; queues = c.put.new.self } in
    put-covered c.args.atoms.now c.args.rules.now c.args.self.now new c.args.waiting c.requires.tended c.requires.waits (c.is_above.ensures.above c.if-is_above.true) refl refl c.in_ok-put.ensures
