use Rattle.std.proofs.Common.{◌≡◌, ℕ, Bool, true, false, not, is_some, List, Box, Global, Option, Some, None, arith, refl, subst}
use Rattle.gv_table.specs.declared.slot.Slot.{Slot}
use Rattle.gv_table.specs.Chain.{chain_length, link_to}
use Rattle.gv_table.proofs.Slots.{chain_length-Empty, chain_length-Table}
use Rattle.gv_table.proofs.chain.Chain.is_empty.Goals as goal

by_cases : (first : Option (Box (List Slot) Global)) (none : Bool) → is_some first ≡ not none →
    (none ≡ true → chain_length (link_to first) ≡ 0) × (chain_length (link_to first) ≡ 0 → none ≡ true)
by_cases None true e = (λ h. chain_length-Empty, λ zero. refl)
by_cases None false e = cc
by_cases (Some slots) true e = cc
by_cases (Some slots) false e = (λ h. cc, λ zero. let one = chain_length-Table slots in absurd (omega (arith, one, zero)))

pub returns : goal.returns
returns c =
    let P : ℕ → Type 0 = λ n. (c.is_none.result ≡ true → n ≡ 0) × (n ≡ 0 → c.is_none.result ≡ true) in
    subst P c.self.view_is (by_cases c.self.inside.first c.is_none.result c.is_none.ensures)
