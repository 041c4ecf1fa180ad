use Rattle.std.proofs.Common.{◌≡◌, ◌++◌, length}
use Rattle.loop_print.specs.PrintHeads.{heads_text}
use Rattle.loop_print.specs.PrintOrder.{lines_left}
use Rattle.loop_print.proofs.heads.put_heads.Given as goal

-- the text so far and that of the lines left are the whole text
abbrev pub invariant-loop-head : goal.invariant-loop-head
invariant-loop-head l =
    l.text.items ++ heads_text (lines_left l.decls l.rest) ≡ l.fn.text.items ++ heads_text (lines_left l.decls l.heads)

abbrev pub decreases-loop-head : goal.decreases-loop-head
decreases-loop-head l = length (lines_left l.decls l.rest)
