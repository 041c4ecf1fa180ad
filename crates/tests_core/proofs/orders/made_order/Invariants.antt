use Rattle.std.proofs.Common.{◌<◌}
use Rattle.std.specs.List.{All}
use Rattle.tests_core.proofs.orders.made_order.Given as goal

abbrev pub invariant-loop : goal.invariant-loop
invariant-loop l = All (λ k. k < 2) l.order.items
