use Rattle.gv_replay.proofs.spaces.Spaces.end.Given as goal

abbrev pub invariant-loop-space : goal.invariant-loop-space
invariant-loop-space l = Unit {0}

abbrev pub decreases-loop-space : goal.decreases-loop-space
decreases-loop-space l = goal.left-loop-space l
