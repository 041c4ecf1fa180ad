use Rattle.std.proofs.Common.{negsuc}
use Rattle.props_once.proofs.Derived.{derivable-once, once-derivable}
use Rattle.props_once.proofs.laws.the_same_is_derivable.Goals as goal

pub returns-clause-derivable : goal.returns-clause-derivable
returns-clause-derivable r decls props u base a b c = (derivable-once decls u props base a b c, once-derivable decls u props base a b c)

pub returns-clause-contradictory : goal.returns-clause-contradictory
returns-clause-contradictory r decls props u base = (
  λ h. (h.0, derivable-once decls u props base h.0 h.0 (negsuc 0) h.1),
  λ h. (h.0, once-derivable decls u props base h.0 h.0 (negsuc 0) h.1),
)
