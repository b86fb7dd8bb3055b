use Rattle.std.proofs.Common.{sym, subst, ℕ}
use Rattle.gv_table.specs.declared.slot.Slot.TheVariants.{Empty}
use Rattle.gv_table.specs.PageChain.{IsPageChain}
use Rattle.gv_table.proofs.PageChains.{chain-none, linked-Empty}
use Rattle.gv_table.proofs.page_chain.PageChain.new.Goals as goal

pub invariant_of-result : goal.invariant_of-result
invariant_of-result c = let P : ℕ → Type 0 = λ n. IsPageChain n Empty in subst P (sym linked-Empty) chain-none

pub returns : goal.returns
returns c = linked-Empty
