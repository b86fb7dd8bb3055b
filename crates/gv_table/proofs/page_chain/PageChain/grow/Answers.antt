use Rattle.std.proofs.lemmas.List.{get_or-replicate}
use Rattle.gv_table.specs.Tree.{no_page}
use Rattle.gv_table.proofs.page_chain.PageChain.grow.Goals as goal

pub put-requires : goal.put-requires
put-requires c = λ k below. rw c.in_ok-table.ensures.ok (get_or-replicate 512 k no_page no_page below)
