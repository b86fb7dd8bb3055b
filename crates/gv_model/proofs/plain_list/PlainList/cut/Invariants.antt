use Rattle.gv_model.proofs.plain_list.PlainList.cut.Given as goal

abbrev pub decreases-loop-first : goal.decreases-loop-first
decreases-loop-first l = l.end
