use Rattle.p2p_exec.proofs.run.Run.+value.Given as goal

abbrev pub decreases-value : goal.decreases-value
decreases-value l = goal.size-value l
