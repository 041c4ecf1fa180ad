use Rattle.std.proofs.Common.{rules, ◌≡◌, List, subst}
use Rattle.core_law.specs.Scripts.{Action, row_actions}
use Rattle.core_machine.specs.declared.work.Work.{Work}
use Rattle.core_machine.specs.FitWork.{plain}
use Rattle.done_words.specs.declared.view.View.{View}
use Rattle.done_words.specs.Seats.{view}
use Rattle.p2p_exec.specs.Tasks.{Acts}
use Rattle.p2p_exec.proofs.rows.run_row.Goals as goal

same_view : (w : Work) (u v v' : View) (actions : List Action) → v ≡ v' → Acts w u actions v → Acts w u actions v'
same_view w u v v' actions e h = subst (Acts w u actions) e h

pub returns-clause-ran : goal.returns-clause-ran
returns-clause-ran c = same_view c.args.work.now (view c.args.seat.now) (view c.row.new.self.seat.now) _ (row_actions (plain c.args.work.now) c.args.row) (search rules) c.row.ensures.ran
