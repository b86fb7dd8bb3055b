use Rattle.std.proofs.Common.{◌≡◌, ◌+◌, ◌∙◌, sym, ap, ℕ, List, subst, arith}
use Rattle.std.specs.Box.{with_value}
use Rattle.gv_table.specs.BufferNames.{PageSlot}
use Rattle.gv_table.specs.declared.slot.Slot.{Slot}
use Rattle.gv_table.specs.declared.slot.Slot.TheVariants.{Pages}
use Rattle.gv_table.specs.PageChain.{ArePagesEmpty, IsPageChain, pages_linked, pages_link}
use Rattle.gv_table.proofs.PageChains.{chain-more, linked-Pages}
use Rattle.gv_table.proofs.page_chain.PageChain.put.Goals as goal

pub invariant_of-self : goal.invariant_of-self
invariant_of-self c =
    let link : c.overwrite.new.slot ≡ pages_link c.self.inside.first = c.overwrite.ensures ∙ c.pages_link.ensures ∙ ap pages_link c.take.ensures.value in
    let table = with_value c.args.table (c.deref_mut.result.now.0, c.overwrite.new.slot) in
    let chain : IsPageChain (pages_linked c.overwrite.new.slot) c.overwrite.new.slot =
    let P : Slot → Type 0 = λ s. IsPageChain (pages_linked s) s in subst P (sym link) c.self.invariant in
    let empty : ArePagesEmpty c.deref_mut.result.now.0 = subst (λ (v : List PageSlot × Slot). ArePagesEmpty v.0) (sym c.deref_mut.ensures.value) c.requires in
    let one = linked-Pages table in
    let more : pages_linked c.overwrite.new.slot + 1 ≡ pages_linked (Pages table) = omega (arith, one) in
    subst (λ (n : ℕ). IsPageChain n (Pages table)) more (chain-more (pages_linked c.overwrite.new.slot) table empty chain)

pub returns : goal.returns
returns c =
    let link : c.overwrite.new.slot ≡ pages_link c.self.inside.first = c.overwrite.ensures ∙ c.pages_link.ensures ∙ ap pages_link c.take.ensures.value in
    let one = linked-Pages (with_value c.args.table (c.deref_mut.result.now.0, c.overwrite.new.slot)) in
    let same : pages_linked c.overwrite.new.slot ≡ c.args.self.now = ap pages_linked link ∙ c.self.view_is in
    omega (arith, one, same)
