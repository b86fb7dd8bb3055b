use Rattle.std.proofs.Common.{rules, arith, ◌≡◌, ◌<◌, ◌-◌, ◌∙◌, sym, ap, length, List, slice_index_or, subst}
use Rattle.std.proofs.lemmas.List.{get_or_default}
use Rattle.gv_table.specs.declared.slot.Slot.{Slot}
use Rattle.gv_table.specs.declared.slot.Slot.TheVariants.{Empty, Table}
use Rattle.gv_table.specs.Chain.{IsChainOf, chain_length, link_to}
use Rattle.gv_table.proofs.Slots.{IsChainOf-rest, IsChainOf-others, chain_length-Empty, chain_length-first}
use Rattle.gv_table.proofs.chain.Chain.take.Goals as goal

pub invariant_of-self : goal.invariant_of-self
invariant_of-self c =
    let first : Table c.in-Some.slots ≡ link_to c.self.inside.first = ap link_to (sym c.in-Some.is ∙ c.take.ensures.value) in
    let P : Slot → Type 0 = λ s. IsChainOf (chain_length s) s in
    let chain : IsChainOf (chain_length (Table c.in-Some.slots)) (Table c.in-Some.slots) = subst P (sym first) c.self.invariant in
    let within : 0 < length c.deref_mut.result.now = search rules in
    let within' : 0 < length c.in-Some.slots.value = rw (← c.deref_mut.ensures.value) within in
    let e : slice_index_or c.in-Some.slots.value 0 Empty ≡ c.replace.result =
    ap (λ (l : List Slot). slice_index_or l 0 Empty) (sym c.deref_mut.ensures.value) ∙
    get_or_default c.deref_mut.result.now 0 Empty c.index-deref_mut-0.result within ∙ sym c.replace.ensures.value in
    let one = chain_length-first c.in-Some.slots within' in
    let fewer : chain_length (Table c.in-Some.slots) - 1 ≡ chain_length (slice_index_or c.in-Some.slots.value 0 Empty) = omega (arith, one) in
    let rest : P c.replace.result = subst P e (rw fewer at (IsChainOf-rest (chain_length (Table c.in-Some.slots)) c.in-Some.slots (omega (arith, one)) chain)) in
    subst P (sym (c.linked.ensures _ rest)) rest

pub unreachable-requires : goal.unreachable-requires
unreachable-requires c =
    let none : Empty ≡ link_to c.self.inside.first = ap link_to (sym c.in-None.is ∙ c.take.ensures.value) in
    let zero = sym c.self.view_is ∙ ap chain_length (sym none) ∙ chain_length-Empty in
    omega (arith, zero, c.requires)

pub returns-clause-empty : goal.returns-clause-empty
returns-clause-empty c =
    let first : Table c.in-Some.slots ≡ link_to c.self.inside.first = ap link_to (sym c.in-Some.is ∙ c.take.ensures.value) in
    let P : Slot → Type 0 = λ s. IsChainOf (chain_length s) s in
    let chain : IsChainOf (chain_length (Table c.in-Some.slots)) (Table c.in-Some.slots) = subst P (sym first) c.self.invariant in
    let long : length c.in-Some.slots.value ≡ 512 = search rules in
    let one = chain_length-first c.in-Some.slots (omega arith) in
    rw c.deref_mut.ensures.value
    (IsChainOf-others (chain_length (Table c.in-Some.slots)) c.in-Some.slots (omega (arith, one)) chain long _ c.replace.ensures.after)

pub returns-clause-fewer : goal.returns-clause-fewer
returns-clause-fewer c =
    let first : Table c.in-Some.slots ≡ link_to c.self.inside.first = ap link_to (sym c.in-Some.is ∙ c.take.ensures.value) in
    let P : Slot → Type 0 = λ s. IsChainOf (chain_length s) s in
    let chain : IsChainOf (chain_length (Table c.in-Some.slots)) (Table c.in-Some.slots) = subst P (sym first) c.self.invariant in
    let within : 0 < length c.deref_mut.result.now = search rules in
    let within' : 0 < length c.in-Some.slots.value = rw (← c.deref_mut.ensures.value) within in
    let e : slice_index_or c.in-Some.slots.value 0 Empty ≡ c.replace.result =
    ap (λ (l : List Slot). slice_index_or l 0 Empty) (sym c.deref_mut.ensures.value) ∙
    get_or_default c.deref_mut.result.now 0 Empty c.index-deref_mut-0.result within ∙ sym c.replace.ensures.value in
    let one = chain_length-first c.in-Some.slots within' in
    let fewer : chain_length (Table c.in-Some.slots) - 1 ≡ chain_length (slice_index_or c.in-Some.slots.value 0 Empty) = omega (arith, one) in
    let rest : P c.replace.result = subst P e (rw fewer at (IsChainOf-rest (chain_length (Table c.in-Some.slots)) c.in-Some.slots (omega (arith, one)) chain)) in
    let whole = ap chain_length first ∙ c.self.view_is in
    let left = ap chain_length (c.linked.ensures _ rest) in
    let same = ap chain_length e in
    omega (arith, one, whole, left, same)
