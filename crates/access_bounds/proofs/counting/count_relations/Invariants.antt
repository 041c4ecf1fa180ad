use Rattle.std.proofs.Common.{take}
use Rattle.std.specs.List.{All}
use Rattle.bracket_claims.specs.Claims.{relation_size, Fits}
use Rattle.access_bounds.proofs.counting.count_relations.Given as goal

abbrev pub invariant-loop-relation : goal.invariant-loop-relation
invariant-loop-relation l = All (λ r. Fits (relation_size l.props r)) (take l.relation-index l.relations)
