use Rattle.loop_lines.proofs.term.+read_term.Given as goal

abbrev pub decreases-read_term : goal.decreases-read_term
decreases-read_term l = l.depth
