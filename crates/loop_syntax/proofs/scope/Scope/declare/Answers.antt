use Rattle.std.specs.Prelude.{reverse}
use Rattle.loop_syntax.proofs.ScopeLaws.{noted_kept, declared_kept}
use Rattle.loop_syntax.proofs.scope.Scope.declare.Goals as goal

pub invariant_of-self-2 : goal.invariant_of-self-2
invariant_of-self-2 c =
    rw (c.in_ok-push.ensures.items, c.copy.ensures) (declared_kept c.make_room.new.table c.put_declared.new.table c.self.inside.declared.items (reverse c.self.inside.blocks.items) c.self.inside.loops c.args.name.now c.args.meaning c.put_declared.ensures (noted_kept c.self.inside.table c.make_room.new.table c.self.inside.declared.items (reverse c.self.inside.blocks.items) c.self.inside.loops c.in_ok-make_room.ensures.same c.self.invariant))
