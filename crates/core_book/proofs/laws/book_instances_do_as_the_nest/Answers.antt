use Rattle.core_book.proofs.Nested.{does}
use Rattle.core_book.proofs.laws.book_instances_do_as_the_nest.Goals as goal

pub returns : goal.returns
returns c = does
