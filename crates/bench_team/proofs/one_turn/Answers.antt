use Rattle.std.proofs.Common.{sym, subst}
use Rattle.core_machine.specs.declared.work.Work.{Work}
use Rattle.done_words.specs.Seats.{main_view, HasAll}
use Rattle.bench_team.proofs.one_turn.Goals as goal

pub close-requires-clause-all : goal.close-requires-clause-all
close-requires-clause-all g c = subst (λ (w : Work). HasAll w (main_view c.run_team.new.main)) (sym c.in_ok-board.ensures.work) c.in_ok-run_team.ensures.all
