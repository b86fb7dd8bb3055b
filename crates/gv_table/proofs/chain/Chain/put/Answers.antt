use Rattle.std.proofs.Common.{rules, ◌≡◌, ◌+◌, ◌∙◌, sym, ℕ, length, List, slice_set, ap, subst}
use Rattle.std.specs.Box.{with_value}
use Rattle.gv_table.specs.declared.slot.Slot.{Slot}
use Rattle.gv_table.specs.declared.slot.Slot.TheVariants.{Table}
use Rattle.gv_table.specs.Chain.{IsChainOf, chain_length, link_to}
use Rattle.gv_table.proofs.Slots.{IsChainOf-more, chain_length-put}
use Rattle.gv_table.proofs.chain.Chain.put.Goals as goal

pub invariant_of-self : goal.invariant_of-self
invariant_of-self c =
    let long : length c.args.slots.value ≡ 512 = search rules in
    let link : c.overwrite.new.slot ≡ link_to c.self.inside.first = c.overwrite.ensures ∙ c.link_to.ensures ∙ ap link_to c.take.ensures.value in
    let chain : IsChainOf (chain_length c.overwrite.new.slot) c.overwrite.new.slot =
    let P : Slot → Type 0 = λ s. IsChainOf (chain_length s) s in subst P (sym link) c.self.invariant in
    let linked = with_value c.args.slots (slice_set c.deref_mut.result.now 0 c.overwrite.new.slot) in
    let e = ap (λ (l : List Slot). slice_set l 0 c.overwrite.new.slot) c.deref_mut.ensures.value in
    let Q : ℕ → Type 0 = λ n. IsChainOf n (Table linked) in
    subst Q (sym (chain_length-put c.args.slots c.overwrite.new.slot long linked e))
    (IsChainOf-more (chain_length c.overwrite.new.slot) c.args.slots c.overwrite.new.slot long c.requires chain linked e)

pub returns : goal.returns
returns c =
    let long : length c.args.slots.value ≡ 512 = search rules in
    let link : c.overwrite.new.slot ≡ link_to c.self.inside.first = c.overwrite.ensures ∙ c.link_to.ensures ∙ ap link_to c.take.ensures.value in
    let linked = with_value c.args.slots (slice_set c.deref_mut.result.now 0 c.overwrite.new.slot) in
    let e = ap (λ (l : List Slot). slice_set l 0 c.overwrite.new.slot) c.deref_mut.ensures.value in
    chain_length-put c.args.slots c.overwrite.new.slot long linked e ∙
    ap (λ (n : ℕ). n + 1) (ap chain_length link ∙ c.self.view_is)
