use Rattle.loop_core.proofs.Meetings.{meetings}
use Rattle.loop_core.proofs.laws.dependences_are_of_touched_cells.Goals as goal

pub returns : goal.returns
returns c = meetings
