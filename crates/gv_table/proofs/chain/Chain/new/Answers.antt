use Rattle.std.proofs.Common.{sym, subst, ℕ}
use Rattle.gv_table.specs.declared.slot.Slot.TheVariants.{Empty}
use Rattle.gv_table.specs.Chain.{IsChainOf}
use Rattle.gv_table.proofs.Slots.{IsChainOf-none, chain_length-Empty}
use Rattle.gv_table.proofs.chain.Chain.new.Goals as goal

pub invariant_of-result : goal.invariant_of-result
invariant_of-result c = let P : ℕ → Type 0 = λ n. IsChainOf n Empty in subst P (sym chain_length-Empty) IsChainOf-none

pub returns : goal.returns
returns c = chain_length-Empty
