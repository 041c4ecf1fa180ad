use Rattle.done_words.specs.Seats.{view, IsOn}
use Rattle.p2p_exec.proofs.Lookings.{LooksFrom}
use Rattle.p2p_exec.proofs.looks.Miss.find.Given as goal

-- the looks from this one on are next
abbrev pub invariant-loop-place : goal.invariant-loop-place
invariant-loop-place l = IsOn l.seat l.board × LooksFrom (view l.initial.seat) l.waits l.fn.from l.place (view l.seat)
