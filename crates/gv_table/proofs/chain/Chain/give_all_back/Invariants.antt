use Rattle.gv_table.proofs.chain.Chain.give_all_back.Given as goal

abbrev pub decreases-loop-self : goal.decreases-loop-self
decreases-loop-self l = l.self
