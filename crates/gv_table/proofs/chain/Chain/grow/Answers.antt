use Rattle.std.proofs.lemmas.List.{get_or-replicate}
use Rattle.gv_table.specs.declared.slot.Slot.TheVariants.{Empty}
use Rattle.gv_table.proofs.chain.Chain.grow.Goals as goal

pub put-requires : goal.put-requires
put-requires c = λ k below. rw c.in_ok-slots.ensures.ok (get_or-replicate 512 k Empty Empty below)
