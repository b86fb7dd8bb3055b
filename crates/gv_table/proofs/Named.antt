-- What a slot is with its buffers' ids.
use Rattle.std.proofs.Common.{◌≡◌, ◌⊎◌, inl, inr, ℕ, zero, suc, map, ◌+◌, ◌*◌, true, false, List, [], ◌∷◌, slice_index_or, Box, Global, refl, sym, ap, ◌∙◌, rules}
use Rattle.gv_types.specs.declared.mapping.Backing.{Backing}
use Rattle.gv_types.specs.declared.mapping.Backing.TheVariants as backing
use Rattle.gv_types.specs.declared.mapping.BufferId.{BufferId}
use Rattle.gv_types.specs.declared.mapping.Entry.{Entry}
use Rattle.gv_types.specs.declared.mapping.Flags.{Flags}
use Rattle.gv_types.specs.declared.mapping.Mapping.{Mapping}
use Rattle.gv_types.specs.PageRange.{PageRangeState}
use Rattle.gv_table.specs.declared.slot.Slot.{Slot, out-Slot, the_lemmas}
use Rattle.gv_table.specs.declared.slot.Slot.TheVariants.{Empty, Zero, Buffer, Pages, Table}
use Rattle.gv_table.specs.declared.slot.Slot.TheViews.{roll-Slot, roll-out-Slot, rolls-Empty, rolls-Zero, rolls-Buffer, rolls-Pages, rolls-Table}
use Rattle.gv_table.specs.declared.slot.Slot.TheOpen as layer
use Rattle.gv_table.specs.Kinds.{Kind}
use Rattle.gv_table.specs.Levels.{pages_of}
use Rattle.gv_table.specs.BufferNames.{PageSlot}
use Rattle.gv_table.specs.Named.{named_backing, named_entry, named_page, named_page_layer, named}
use Rattle.gv_table.specs.Counts.{tables_at, gained, lost, needed}
use Rattle.gv_table.specs.Tree.{is_table, child, leaf, leaf_with, no_page, slot_of}
use Rattle.gv_table.proofs.Slots.{is_table-leaf, is_table-Pages, is_table-Table, child-Empty, child-Table, child-Pages, child-other, leaf-Zero, leaf-Buffer, slot_of-none, page-other}
use Rattle.gv_table.proofs.Sums.{sum_below-same}

-- each slot is empty, a leaf, or one of the two tables
abbrev pub Variant : Slot → Type 0
Variant slot =
    (slot ≡ Empty) ⊎ (((entry : Entry) × (slot ≡ leaf entry)) ⊎
    (((pages : Box (List PageSlot × Slot) Global) × (slot ≡ Pages pages)) ⊎ ((slots : Box (List Slot) Global) × (slot ≡ Table slots))))

variant-by : (l : layer.Slot-F Slot) (slot : Slot) → slot ≡ roll-Slot l → Variant slot
variant-by layer.Empty slot e = inl (e ∙ rolls-Empty)
variant-by (layer.Zero flags) slot e = inr (inl (record { backing = backing.Zero; flags = flags }, e ∙ rolls-Zero flags ∙ sym (leaf-Zero flags)))
variant-by (layer.Buffer flags id page) slot e =
    inr (inl (record { backing = backing.Buffer id page; flags = flags }, e ∙ rolls-Buffer flags id page ∙ sym (leaf-Buffer flags id page)))
variant-by (layer.Pages pages) slot e = inr (inr (inl (pages, e ∙ rolls-Pages pages)))
variant-by (layer.Table slots) slot e = inr (inr (inr (slots, e ∙ rolls-Table slots)))

pub variant-of : (slot : Slot) → Variant slot
variant-of slot = variant-by (out-Slot slot) slot (sym (roll-out-Slot slot))

-- what a function of each element makes of one, where it makes an empty slot of what stands past the end
mapped : {X : Type 0} (f : X → Slot) (xs : List X) (k : ℕ) (d : X) → f d ≡ Empty → slice_index_or (map f xs) k Empty ≡ f (slice_index_or xs k d)
mapped f [] k d none = sym none
mapped f (x ∷ xs) zero d none = refl
mapped f (x ∷ xs) (suc k) d none = mapped f xs k d none

module _ (names : List BufferId) where
  pub named-Empty : named names Empty ≡ Empty
  unfolding named
  named-Empty = search (rules, the_lemmas)

  named-Zero : (flags : Flags) → named names (Zero flags) ≡ Zero flags
  unfolding named
  named-Zero flags = search (rules, the_lemmas)

  named-Buffer : (flags : Flags) (id : BufferId) (page : ℕ) → named names (Buffer flags id page) ≡ Buffer flags (slice_index_or names id.index id) page
  unfolding named
  named-Buffer flags id page = search (rules, the_lemmas)

  named-Pages : (pages : Box (List PageSlot × Slot) Global) →
      named names (Pages pages) ≡ Table (record { ptr = pages.ptr; value = map (named_page names) pages.value.0; alloc = pages.alloc })
  unfolding named
  named-Pages pages = search (rules, the_lemmas)

  named-Table : (slots : Box (List Slot) Global) →
      named names (Table slots) ≡ Table (record { ptr = slots.ptr; value = map (named names) slots.value; alloc = slots.alloc })
  unfolding named
  named-Table slots = search (rules, the_lemmas)

  with-named : (flags : Flags) (b : Backing) → named names (leaf_with flags b) ≡ leaf_with flags (named_backing names b)
  with-named flags backing.Zero = named-Zero flags
  with-named flags (backing.Buffer id page) = named-Buffer flags id page

  pub named-leaf : (entry : Entry) → named names (leaf entry) ≡ leaf (named_entry names entry)
  unfolding leaf
  named-leaf entry = with-named entry.flags entry.backing

  -- a page's slot is named as any other
  page-by : (l : layer.Slot-F Slot) (slot : Slot) → slot ≡ roll-Slot l → is_table slot ≡ false → named_page_layer names l ≡ named names slot
  page-by layer.Empty slot e other = sym (ap (named names) (e ∙ rolls-Empty) ∙ named-Empty)
  page-by (layer.Zero flags) slot e other = sym (ap (named names) (e ∙ rolls-Zero flags) ∙ named-Zero flags)
  page-by (layer.Buffer flags id page) slot e other = sym (ap (named names) (e ∙ rolls-Buffer flags id page) ∙ named-Buffer flags id page)
  page-by (layer.Pages pages) slot e other =
      let bad : true ≡ false = sym (ap is_table (e ∙ rolls-Pages pages) ∙ is_table-Pages pages) ∙ other in cc
  page-by (layer.Table slots) slot e other =
      let bad : true ≡ false = sym (ap is_table (e ∙ rolls-Table slots) ∙ is_table-Table slots) ∙ other in cc

  pub named-page : (p : PageSlot) → named_page names p ≡ named names (slot_of p)
  named-page p = page-by (out-Slot (slot_of p)) (slot_of p) (sym (roll-out-Slot (slot_of p))) (page-other p)

  none-page : named_page names no_page ≡ Empty
  none-page = named-page no_page ∙ ap (named names) slot_of-none ∙ named-Empty

  -- it is a table where it was one
  pub is_table-named : (slot : Slot) → is_table (named names slot) ≡ is_table slot
  is_table-named slot = elim (variant-of slot) [
    | inl e ↦ ap (λ (s : Slot). is_table (named names s)) e ∙ ap is_table named-Empty ∙ sym (ap is_table e)
    | inr (inl p) ↦ ap (λ (s : Slot). is_table (named names s)) p.1 ∙ ap is_table (named-leaf p.0) ∙ is_table-leaf (named_entry names p.0) ∙ sym (ap is_table p.1 ∙ is_table-leaf p.0)
    | inr (inr (inl p)) ↦ ap (λ (s : Slot). is_table (named names s)) p.1 ∙ ap is_table (named-Pages p.0) ∙ is_table-Table _ ∙ sym (ap is_table p.1 ∙ is_table-Pages p.0)
    | inr (inr (inr p)) ↦ ap (λ (s : Slot). is_table (named names s)) p.1 ∙ ap is_table (named-Table p.0) ∙ is_table-Table _ ∙ sym (ap is_table p.1 ∙ is_table-Table p.0)
  ]

  child-leaf : (entry : Entry) (k : ℕ) → child (leaf entry) k ≡ Empty
  child-leaf entry k = child-other (leaf entry) k (is_table-leaf entry)

  -- and its parts are those of the slot, named
  pub child-named : (slot : Slot) (k : ℕ) → child (named names slot) k ≡ named names (child slot k)
  child-named slot k = elim (variant-of slot) [
    | inl e ↦ ap (λ (s : Slot). child (named names s) k) e ∙ ap (λ (s : Slot). child s k) named-Empty ∙ child-Empty k ∙
        sym (ap (λ (s : Slot). named names (child s k)) e ∙ ap (named names) (child-Empty k) ∙ named-Empty)
    | inr (inl p) ↦ ap (λ (s : Slot). child (named names s) k) p.1 ∙ ap (λ (s : Slot). child s k) (named-leaf p.0) ∙ child-leaf (named_entry names p.0) k ∙
        sym (ap (λ (s : Slot). named names (child s k)) p.1 ∙ ap (named names) (child-leaf p.0 k) ∙ named-Empty)
    | inr (inr (inl p)) ↦ ap (λ (s : Slot). child (named names s) k) p.1 ∙ ap (λ (s : Slot). child s k) (named-Pages p.0) ∙ child-Table _ k ∙
        mapped (named_page names) p.0.value.0 k no_page none-page ∙ named-page (slice_index_or p.0.value.0 k no_page) ∙
        sym (ap (λ (s : Slot). named names (child s k)) p.1 ∙ ap (named names) (child-Pages p.0 k))
    | inr (inr (inr p)) ↦ ap (λ (s : Slot). child (named names s) k) p.1 ∙ ap (λ (s : Slot). child s k) (named-Table p.0) ∙ child-Table _ k ∙
        mapped (named names) p.0.value k Empty named-Empty ∙ sym (ap (λ (s : Slot). named names (child s k)) p.1 ∙ ap (named names) (child-Table p.0 k))
  ]

  -- so it has its tables
  pub tables_at-named : (target level : ℕ) (slot : Slot) → tables_at target level (named names slot) ≡ tables_at target level slot
  unfolding tables_at
  tables_at-named target zero slot = refl
  tables_at-named target (suc level) slot =
      let parts = sum_below-same 512 (λ k. tables_at target level (child (named names slot) k)) (λ k. tables_at target level (child slot k))
      (λ k below. ap (tables_at target level) (child-named slot k) ∙ tables_at-named target level (child slot k)) in
      rw (is_table-named slot, parts) refl

  pub gained-named : (kind : Kind) (ms : List Mapping) (level first : ℕ) (slot : Slot) → gained kind ms level first (named names slot) ≡ gained kind ms level first slot
  unfolding gained
  gained-named kind ms zero first slot = refl
  gained-named kind ms (suc level) first slot =
      let parts = sum_below-same 512 (λ k. gained kind ms level (first + k * pages_of level) (child (named names slot) k)) (λ k. gained kind ms level (first + k * pages_of level) (child slot k))
      (λ k below. ap (gained kind ms level (first + k * pages_of level)) (child-named slot k) ∙ gained-named kind ms level (first + k * pages_of level) (child slot k)) in
      rw (is_table-named slot, parts) refl

  pub lost-named : (kind : Kind) (ms : List Mapping) (level first : ℕ) (slot : Slot) → lost kind ms level first (named names slot) ≡ lost kind ms level first slot
  unfolding lost
  lost-named kind ms zero first slot = refl
  lost-named kind ms (suc level) first slot =
      let parts = sum_below-same 512 (λ k. lost kind ms level (first + k * pages_of level) (child (named names slot) k)) (λ k. lost kind ms level (first + k * pages_of level) (child slot k))
      (λ k below. ap (lost kind ms level (first + k * pages_of level)) (child-named slot k) ∙ lost-named kind ms level (first + k * pages_of level) (child slot k)) in
      rw (is_table-named slot, parts) refl

  pub needed-named : (kind : Kind) (ms : List Mapping) (range : PageRangeState) (level first : ℕ) (slot : Slot) →
      needed kind ms range level first (named names slot) ≡ needed kind ms range level first slot
  unfolding needed
  needed-named kind ms range zero first slot = refl
  needed-named kind ms range (suc level) first slot =
      let parts = sum_below-same 512 (λ k. needed kind ms range level (first + k * pages_of level) (child (named names slot) k)) (λ k. needed kind ms range level (first + k * pages_of level) (child slot k))
      (λ k below. ap (needed kind ms range level (first + k * pages_of level)) (child-named slot k) ∙ needed-named kind ms range level (first + k * pages_of level) (child slot k)) in
      rw (is_table-named slot, parts) refl
