use Rattle.std.proofs.Common.{◌≡◌, ◌-◌, ◌∙◌, sym, ap, List, subst, arith}
use Rattle.gv_table.specs.BufferNames.{PageSlot}
use Rattle.gv_table.specs.declared.slot.Slot.{Slot}
use Rattle.gv_table.specs.declared.slot.Slot.TheVariants.{Empty, Pages}
use Rattle.gv_table.specs.PageChain.{ArePagesEmpty, IsPageChain, pages_linked, pages_link}
use Rattle.gv_table.proofs.PageChains.{chain-first, chain-rest, linked-Empty, linked-Pages}
use Rattle.gv_table.proofs.page_chain.PageChain.take.Goals as goal

pub invariant_of-self : goal.invariant_of-self
invariant_of-self c =
    let first : pages_link c.self.inside.first ≡ Pages c.in-Some.table = ap pages_link (sym c.take.ensures.value ∙ c.in-Some.is) in
    let P : Slot → Type 0 = λ s. IsPageChain (pages_linked s) s in
    let chain : P (Pages c.in-Some.table) = subst P first c.self.invariant in
    let one = linked-Pages c.in-Some.table in
    let link : c.in-Some.table.value.1 ≡ c.replace.result = sym (c.replace.ensures.value ∙ ap (λ (v : List PageSlot × Slot). v.1) c.deref_mut.ensures.value) in
    let fewer : pages_linked (Pages c.in-Some.table) - 1 ≡ pages_linked c.in-Some.table.value.1 = omega (arith, one) in
    let rest : P c.replace.result = subst P link (rw fewer at (chain-rest (pages_linked (Pages c.in-Some.table)) c.in-Some.table (omega (arith, one)) chain)) in
    subst P (sym (c.linked_pages.ensures _ rest)) rest

pub unreachable-requires : goal.unreachable-requires
unreachable-requires c =
    let none : Empty ≡ pages_link c.self.inside.first = ap pages_link (sym c.in-None.is ∙ c.take.ensures.value) in
    let zero = sym c.self.view_is ∙ ap pages_linked (sym none) ∙ linked-Empty in
    omega (arith, zero, c.requires)

pub returns-clause-empty : goal.returns-clause-empty
returns-clause-empty c =
    let first : pages_link c.self.inside.first ≡ Pages c.in-Some.table = ap pages_link (sym c.take.ensures.value ∙ c.in-Some.is) in
    let P : Slot → Type 0 = λ s. IsPageChain (pages_linked s) s in
    let chain : P (Pages c.in-Some.table) = subst P first c.self.invariant in
    let one = linked-Pages c.in-Some.table in
    subst (λ (v : List PageSlot × Slot). ArePagesEmpty v.0) (sym c.deref_mut.ensures.value) (chain-first (pages_linked (Pages c.in-Some.table)) c.in-Some.table (omega (arith, one)) chain)

pub returns-clause-fewer : goal.returns-clause-fewer
returns-clause-fewer c =
    let first : pages_link c.self.inside.first ≡ Pages c.in-Some.table = ap pages_link (sym c.take.ensures.value ∙ c.in-Some.is) in
    let P : Slot → Type 0 = λ s. IsPageChain (pages_linked s) s in
    let chain : P (Pages c.in-Some.table) = subst P first c.self.invariant in
    let one = linked-Pages c.in-Some.table in
    let link : c.in-Some.table.value.1 ≡ c.replace.result = sym (c.replace.ensures.value ∙ ap (λ (v : List PageSlot × Slot). v.1) c.deref_mut.ensures.value) in
    let fewer : pages_linked (Pages c.in-Some.table) - 1 ≡ pages_linked c.in-Some.table.value.1 = omega (arith, one) in
    let rest : P c.replace.result = subst P link (rw fewer at (chain-rest (pages_linked (Pages c.in-Some.table)) c.in-Some.table (omega (arith, one)) chain)) in
    let whole = sym (ap pages_linked first) ∙ c.self.view_is in
    let left = ap pages_linked (c.linked_pages.ensures _ rest) in
    let same = ap pages_linked link in
    omega (arith, one, whole, left, same)
