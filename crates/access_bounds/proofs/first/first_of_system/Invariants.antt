use Rattle.std.proofs.Common.{List}
use Rattle.loop_core.specs.declared.decl.Decl.{Decl}
use Rattle.loop_core.specs.declared.decl.PropDecl.{PropDecl}
use Rattle.access_bounds.specs.Shared.{HaveOneSystem, IsSystemOf, AreBoundedBelow}
use Rattle.access_bounds.proofs.first.first_of_system.Given as goal

abbrev pub invariant-loop-place : goal.invariant-loop-place
invariant-loop-place l = (decls : List Decl) (props : List PropDecl) → IsSystemOf l.closure decls props l.lead → AreBoundedBelow decls props l.claims (HaveOneSystem l.lead) l.place
