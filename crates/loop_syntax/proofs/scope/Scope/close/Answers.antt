use Rattle.loop_syntax.proofs.ScopeLaws.{popped_present, popped_kept}
use Rattle.loop_syntax.proofs.scope.Scope.close.Goals as goal

pub put_variable-requires : goal.put_variable-requires
put_variable-requires c = popped_present _ _ _ _ _ _ _ _ c.in-Some.ensures.items c.in-Repeated.is c.self.invariant

pub invariant_of-self-in-Repeated : goal.invariant_of-self-in-Repeated
invariant_of-self-in-Repeated c = popped_kept c.self.inside.table c.put_variable.new.table _ _ _ _ _ _ _ c.in-Some.ensures.items c.in-Repeated.is c.put_variable.ensures c.self.invariant
