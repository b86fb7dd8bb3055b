-- Chains of empty tables of single pages.
use Rattle.std.proofs.Common.{◌≡◌, ◌∙◌, ℕ, zero, suc, ◌+◌, ◌-◌, ◌<◌, true, false, List, Box, Global, refl, arith, sym, ap, subst, rules, add-one}
use Rattle.gv_table.specs.BufferNames.{PageSlot}
use Rattle.gv_table.specs.declared.slot.Slot.{Slot, out-Slot, the_lemmas}
use Rattle.gv_table.specs.declared.slot.Slot.TheVariants.{Empty, Pages, Table}
use Rattle.gv_table.specs.declared.slot.Slot.TheOpen as layer
use Rattle.gv_table.specs.PageChain.{ArePagesEmpty, IsPageChain, is_pages, pages_in, link_in, pages_linked, layer_is_pages, layer_pages, layer_link}
use Rattle.gv_table.specs.Tree.{is_table, layer_is_table}
use Rattle.gv_table.proofs.Slots.{out-Pages, out-Table}

pub linked-Empty : pages_linked Empty ≡ 0
unfolding pages_linked
linked-Empty = search (rules, the_lemmas)

pub linked-Pages : (pages : Box (List PageSlot × Slot) Global) → pages_linked (Pages pages) ≡ 1 + pages_linked pages.value.1
unfolding pages_linked
linked-Pages pages = search (rules, the_lemmas)

pub is_pages-Pages : (pages : Box (List PageSlot × Slot) Global) → is_pages (Pages pages) ≡ true
unfolding is_pages
is_pages-Pages pages = ap layer_is_pages (out-Pages pages)

pub is_pages-Table : (slots : Box (List Slot) Global) → is_pages (Table slots) ≡ false
unfolding is_pages
is_pages-Table slots = ap layer_is_pages (out-Table slots)

other-pages : (l : layer.Slot-F Slot) → layer_is_table l ≡ false → layer_is_pages l ≡ false
other-pages layer.Empty other = refl
other-pages (layer.Zero flags) other = refl
other-pages (layer.Buffer flags id page) other = refl
other-pages (layer.Pages pages) other = cc
other-pages (layer.Table slots) other = refl

pub no-pages : (slot : Slot) → is_table slot ≡ false → is_pages slot ≡ false
unfolding is_table is_pages
no-pages slot other = other-pages (out-Slot slot) other

pages_in-Pages : (pages : Box (List PageSlot × Slot) Global) → pages_in (Pages pages) ≡ pages.value.0
unfolding pages_in
pages_in-Pages pages = ap layer_pages (out-Pages pages)

link_in-Pages : (pages : Box (List PageSlot × Slot) Global) → link_in (Pages pages) ≡ pages.value.1
unfolding link_in
link_in-Pages pages = ap layer_link (out-Pages pages)

pub chain-none : IsPageChain 0 Empty
unfolding IsPageChain
chain-none = refl

-- an empty table before a chain
pub chain-more : (count : ℕ) (pages : Box (List PageSlot × Slot) Global) → ArePagesEmpty pages.value.0 → IsPageChain count pages.value.1 → IsPageChain (count + 1) (Pages pages)
unfolding IsPageChain
chain-more count pages empty chain =
    rw add-one (
      is_pages-Pages pages,
      subst ArePagesEmpty (sym (pages_in-Pages pages)) empty,
      subst (λ (s : Slot). IsPageChain count s) (sym (link_in-Pages pages)) chain,
    )

pub chain-first : (count : ℕ) (pages : Box (List PageSlot × Slot) Global) → 0 < count → IsPageChain count (Pages pages) → ArePagesEmpty pages.value.0
unfolding IsPageChain
chain-first zero pages some chain = absurd (omega arith)
chain-first (suc count) pages some chain = subst ArePagesEmpty (pages_in-Pages pages) chain.1

pub chain-rest : (count : ℕ) (pages : Box (List PageSlot × Slot) Global) → 0 < count → IsPageChain count (Pages pages) → IsPageChain (count - 1) pages.value.1
unfolding IsPageChain
chain-rest zero pages some chain = absurd (omega arith)
chain-rest (suc count) pages some chain =
    let e : suc count - 1 ≡ count = omega arith in
    rw e (subst (λ (s : Slot). IsPageChain count s) (link_in-Pages pages) chain.2)

-- a chain whose first slot is no table of pages is none
pub no-link : (count : ℕ) (slot : Slot) → IsPageChain count slot → is_pages slot ≡ false → Empty ≡ slot
unfolding IsPageChain
no-link zero slot chain other = sym chain
no-link (suc count) slot chain other = let bad : true ≡ false = sym chain.0 ∙ other in cc
