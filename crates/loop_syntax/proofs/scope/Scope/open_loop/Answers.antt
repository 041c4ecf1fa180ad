use Rattle.std.proofs.Common.{arith}
use Rattle.loop_syntax.proofs.ScopeLaws.{few_loops}
use Rattle.loop_syntax.proofs.scope.Scope.open_loop.Goals as goal

pub overflow_add-self : goal.overflow_add-self
overflow_add-self c = omega (arith, few_loops c.self.inside.blocks.items, c.self.invariant.counted, c.in_ok-push.ensures.len, c.len-blocks.ensures, c.len-blocks.type_inv)
