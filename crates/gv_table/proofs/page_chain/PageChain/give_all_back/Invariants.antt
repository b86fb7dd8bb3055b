use Rattle.gv_table.proofs.page_chain.PageChain.give_all_back.Given as goal

abbrev pub decreases-loop-self : goal.decreases-loop-self
decreases-loop-self l = l.self
