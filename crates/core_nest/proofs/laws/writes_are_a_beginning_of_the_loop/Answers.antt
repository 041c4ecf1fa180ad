use Rattle.core_nest.specs.NestLaws.{plain_work}
use Rattle.core_nest.proofs.Nests.{fits}
use Rattle.core_nest.proofs.Order.{beginning}
use Rattle.core_nest.proofs.laws.writes_are_a_beginning_of_the_loop.Goals as goal

pub returns : goal.returns
returns c = λ nest a x workers e cell fit reached. beginning nest a x workers fit e cell (c.writes_are_prefixes.ensures (plain_work nest a x workers) e cell (fits nest a x workers fit) reached)
