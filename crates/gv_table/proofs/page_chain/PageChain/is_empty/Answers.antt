use Rattle.std.proofs.Common.{◌≡◌, ℕ, Bool, true, false, not, is_some, List, Box, Global, Option, Some, None, arith, refl, subst}
use Rattle.gv_table.specs.BufferNames.{PageSlot}
use Rattle.gv_table.specs.declared.slot.Slot.{Slot}
use Rattle.gv_table.specs.PageChain.{pages_linked, pages_link}
use Rattle.gv_table.proofs.PageChains.{linked-Empty, linked-Pages}
use Rattle.gv_table.proofs.page_chain.PageChain.is_empty.Goals as goal

by_cases : (first : Option (Box (List PageSlot × Slot) Global)) (none : Bool) → is_some first ≡ not none →
    (none ≡ true → pages_linked (pages_link first) ≡ 0) × (pages_linked (pages_link first) ≡ 0 → none ≡ true)
by_cases None true e = (λ h. linked-Empty, λ zero. refl)
by_cases None false e = cc
by_cases (Some pages) true e = cc
by_cases (Some pages) false e = (λ h. cc, λ zero. let one = linked-Pages pages in absurd (omega (arith, one, zero)))

pub returns : goal.returns
returns c =
    let P : ℕ → Type 0 = λ n. (c.is_none.result ≡ true → n ≡ 0) × (n ≡ 0 → c.is_none.result ≡ true) in
    subst P c.self.view_is (by_cases c.self.inside.first c.is_none.result c.is_none.ensures)
