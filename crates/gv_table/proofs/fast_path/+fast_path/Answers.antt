use Rattle.std.proofs.Common.{rules, arith, inl, inr, refl, ◌≡◌, ◌+◌, ◌*◌, ◌<◌, ◌-◌, ℕ, true, length, slice_set, slice_index_or, List, Box, Global, sym, ap, ◌∙◌, subst}
use Rattle.std.proofs.lemmas.List.{get_or_default}
use borrow.Enum.Total.{values_o_at}
use Rattle.gv_types.specs.PageRange.{PageRangeState, span, meets}
use Rattle.gv_types.specs.declared.mapping.Mapping.{Mapping}
use Rattle.gv_table.specs.contracts.slot.Slot.{enum}
use Rattle.gv_table.specs.BufferNames.{PageSlot}
use Rattle.gv_table.specs.declared.slot.Slot.{Slot}
use Rattle.gv_table.specs.declared.slot.Slot.TheVariants.{Empty, Table}
use Rattle.gv_table.specs.declared.wanted.Wanted.TheVariants as variant
use Rattle.gv_table.specs.Levels.{pages_of}
use Rattle.gv_table.specs.Wanted.{wanted}
use Rattle.gv_table.specs.Shape.{IsShaped}
use Rattle.gv_table.specs.Tree.{IsTreeOf, IsEncodableOutside, is_table, child, slot_of, no_page}
use Rattle.gv_table.specs.Counts.{row_tables_at}
use Rattle.gv_table.proofs.TablesInSlots.{lost-parts, tables_at-pages}
use Rattle.gv_table.proofs.CoveringMappings.{true-or-false}
use Rattle.gv_table.proofs.SameTables.{kept-counted, kept-row}
use Rattle.gv_table.proofs.OneSlotPainted.{row-pages, in-row, one-tree, one-lost}
use Rattle.gv_table.proofs.LeafRows.{leaves-tree, leaves-lost, leaves-counted, leaves-shaped}
use Rattle.gv_table.proofs.PagesOf.{pages_of-below}
use Rattle.gv_table.proofs.NextSlotPainted.{table-row, lost-divided, pages-lost}
use Rattle.gv_table.proofs.Patched.{patched-divided}
use Rattle.gv_table.proofs.Shapes.{shaped-Pages, shaped-Table, shaped-written, table-parts}
use Rattle.gv_table.proofs.Slots.{is_table-Pages, is_table-Table, child-Pages}
use Rattle.gv_table.proofs.Trees.{IsTreeOf-pages, IsTreeOf-table, read-parts}
use Rattle.gv_table.proofs.Wants.{table-around}
use Rattle.gv_table.proofs.SlotWrittenBack.{is-read, is-written}
use Rattle.gv_table.proofs.fast_path.+fast_path.Goals as goal

-- a slot of a row that is read with a default fits outside where the row's does
outside-read : (ms : List Mapping) (range : PageRangeState) (level first pages i : ℕ) (row : List Slot) (d : Slot) → i < length row → pages ≡ pages_of level →
    IsEncodableOutside ms range level (first + i * pages_of level) (slice_index_or row i Empty) → IsEncodableOutside ms range level (first + i * pages) (slice_index_or row i d)
outside-read ms range level first pages i row d within same outside =
    let read = is-read ms level first pages i row d within same in
    record {
      earlier = outside.earlier;
      laid_out = outside.laid_out;
      encoded = outside.encoded;
      alike = outside.alike;
      tree = subst (λ (n : ℕ). IsTreeOf outside.earlier level n (slice_index_or row i d)) (sym read.start)
          (subst (λ (s : Slot). IsTreeOf outside.earlier level (first + i * pages_of level) s) (sym read.slot) outside.tree);
    }

-- the parts of a table fit outside where the table does
outside-parts : (ms : List Mapping) (range : PageRangeState) (level first : ℕ) (slot : Slot) → 0 < level → is_table slot ≡ true → IsEncodableOutside ms range level first slot →
    (k : ℕ) → k < 512 → IsEncodableOutside ms range (level - 1) (first + k * pages_of (level - 1)) (child slot k)
outside-parts ms range level first slot some table outside k below = record {
  earlier = outside.earlier;
  laid_out = outside.laid_out;
  encoded = outside.encoded;
  alike = outside.alike;
  tree = read-parts outside.earlier level first slot some outside.tree table k below;
}

pub try_paint_row-returns-clause-stays : goal.try_paint_row-returns-clause-stays
try_paint_row-returns-clause-stays t c = λ done ms is.
    let within : c.in-Some.index < length c.args.slots.now = search rules in
    let read = is-read ms c.args.slot_at.level c.args.slot_at.first c.pages_of.result c.in-Some.index c.args.slots.now c.index-slots-index.result within c.pages_of.ensures.pages in
    table-around ms c.args.slot_at.level c.args.slot_at.first c.in-Some.index is.laid_out c.in-Some.ensures.part.known
    (subst (λ (n : ℕ). wanted ms c.args.slot_at.level n ≡ variant.Table) read.start (c.try_paint_slot.ensures.stays done ms is))

pub try_paint_row-returns-clause-tree : goal.try_paint_row-returns-clause-tree
try_paint_row-returns-clause-tree t c = λ done ms patched outside.
    let range = c.args.excerpt.now.range in
    let level : ℕ = c.args.slot_at.level in
    let first : ℕ = c.args.slot_at.first in
    let i : ℕ = c.in-Some.index in
    let row = c.args.slots.now in
    let after : List Slot = slice_set row i c.try_paint_slot.new.slot in
    let within : c.in-Some.index < length c.args.slots.now = search rules in
    let is = c.in-Some.ensures.part in
    let part = outside-read ms range level first c.pages_of.result i row c.index-slots-index.result within c.pages_of.ensures.pages (outside i is.known) in
    let w = is-written ms level first c.pages_of.result i row c.index-slots-index.result c.try_paint_slot.new.slot within c.pages_of.ensures.pages (c.try_paint_slot.ensures.tree done ms patched part) in
    one-tree ms range level first i row after patched.laid_out c.requires.in_space is.known (in-row range level first i is) outside w.same w.here

pub try_paint_row-returns-clause-lost : goal.try_paint_row-returns-clause-lost
try_paint_row-returns-clause-lost t c = λ done ms patched outside kind.
    let range = c.args.excerpt.now.range in
    let level : ℕ = c.args.slot_at.level in
    let first : ℕ = c.args.slot_at.first in
    let i : ℕ = c.in-Some.index in
    let row = c.args.slots.now in
    let after : List Slot = slice_set row i c.try_paint_slot.new.slot in
    let within : c.in-Some.index < length c.args.slots.now = search rules in
    let is = c.in-Some.ensures.part in
    let part = outside-read ms range level first c.pages_of.result i row c.index-slots-index.result within c.pages_of.ensures.pages (outside i is.known) in
    let read = is-read ms level first c.pages_of.result i row c.index-slots-index.result within c.pages_of.ensures.pages in
    let w = is-written ms level first c.pages_of.result i row c.index-slots-index.result c.try_paint_slot.new.slot within c.pages_of.ensures.pages (c.try_paint_slot.ensures.tree done ms patched part) in
    let l = one-lost ms range level first i row after patched.laid_out c.requires.in_space is.known (in-row range level first i is) outside w.same w.here kind in
    let none = c.try_paint_slot.ensures.lost done ms patched part kind in
    omega (arith, read.loses kind, l, none)

pub try_paint_row-returns-clause-counted : goal.try_paint_row-returns-clause-counted
try_paint_row-returns-clause-counted t c = λ target.
    let within : c.in-Some.index < length c.args.slots.now = search rules in
    kept-row target c.args.slot_at.level c.in-Some.index c.args.slots.now c.index-slots-index.result c.try_paint_slot.new.slot within (c.try_paint_slot.ensures.counted target)

-- the slots of a row that become leaves, or empty
pub try_paint_row-divides-requires-clause-in_space : goal.try_paint_row-divides-requires-clause-in_space
try_paint_row-divides-requires-clause-in_space t c = let pages = row-pages c.args.slot_at.level in omega (arith, pages, c.requires.in_space)

pub try_paint_row-returns-then-divides-clause-stays : goal.try_paint_row-returns-then-divides-clause-stays
try_paint_row-returns-then-divides-clause-stays t c = λ done ms is.
    patched-divided ms c.args.excerpt.now.mappings.now c.args.excerpt.now.range c.args.some is (c.args.slot_at.level + 1) c.args.slot_at.first (c.if-divides.ensures.met refl) (c.if-divides.ensures.not_whole refl)

pub try_paint_row-returns-then-divides-clause-tree : goal.try_paint_row-returns-then-divides-clause-tree
try_paint_row-returns-then-divides-clause-tree t c = λ done ms is outside.
    leaves-tree c.args.excerpt.now.mappings.now c.args.excerpt.now.range c.args.slot_at.level c.args.slot_at.first c.args.slots.now c.try_paint_leaves.new.slots
    (c.try_paint_leaves.ensures.inside done) c.try_paint_leaves.ensures.outside ms c.args.some is c.requires.laid_out c.requires.some c.requires.in_space outside

pub try_paint_row-returns-then-divides-clause-lost : goal.try_paint_row-returns-then-divides-clause-lost
try_paint_row-returns-then-divides-clause-lost t c = λ done ms is outside.
    leaves-lost c.args.excerpt.now.mappings.now c.args.excerpt.now.range c.args.slot_at.level c.args.slot_at.first c.args.slots.now c.try_paint_leaves.new.slots
    (c.try_paint_leaves.ensures.inside done) c.try_paint_leaves.ensures.outside ms c.args.some is c.requires.laid_out c.requires.some c.requires.in_space outside

pub try_paint_row-returns-then-divides-clause-counted : goal.try_paint_row-returns-then-divides-clause-counted
try_paint_row-returns-then-divides-clause-counted t c = λ target.
    elim (true-or-false c.try_paint_leaves.result) [
      | inl done ↦ leaves-counted c.args.excerpt.now.mappings.now c.args.excerpt.now.range c.args.slot_at.level c.args.slot_at.first c.args.slots.now c.try_paint_leaves.new.slots
          (c.try_paint_leaves.ensures.inside done) c.try_paint_leaves.ensures.outside target
      | inr not ↦ ap (λ (r : List Slot). row_tables_at target c.args.slot_at.level r) (c.try_paint_leaves.ensures.not not)
    ]

pub try_paint_row-returns-then-divides-clause-shaped : goal.try_paint_row-returns-then-divides-clause-shaped
try_paint_row-returns-then-divides-clause-shaped t c = λ all.
    elim (true-or-false c.try_paint_leaves.result) [
      | inl done ↦ leaves-shaped c.args.excerpt.now.mappings.now c.args.excerpt.now.range c.args.slot_at.level c.args.slot_at.first c.args.slots.now c.try_paint_leaves.new.slots
          (c.try_paint_leaves.ensures.inside done) c.try_paint_leaves.ensures.outside all
      | inr not ↦ λ k below. subst (λ (r : List Slot). IsShaped c.args.slot_at.level (slice_index_or r k Empty)) (sym (c.try_paint_leaves.ensures.not not)) (all k below)
    ]

pub try_paint_slot-try_paint_row-requires : goal.try_paint_slot-try_paint_row-requires
try_paint_slot-try_paint_row-requires t c =
    let some = c.requires.some in
    let below-of = pages_of-below c.args.slot_at.level some in (
      omega (arith, some),
      (
        omega arith,
        (
          omega (arith, c.requires.known),
          (
            omega (arith, below-of, c.requires.in_space),
            (
              c.requires.laid_out,
              (
                c.requires.encoded,
                (
                  c.requires.position,
                  subst (λ (n : ℕ). meets (span c.args.slot_at.first n) c.args.excerpt.now.range ≡ true) below-of c.requires.met,
                ),
              ),
            ),
          ),
        ),
      ),
    )

pub try_paint_slot-returns-then-slot_at-gt1-clause-stays : goal.try_paint_slot-returns-then-slot_at-gt1-clause-stays
try_paint_slot-returns-then-slot_at-gt1-clause-stays t c = λ done ms patched.
    let some = c.requires.some in
    let above : c.args.slot_at.level - 1 + 1 ≡ c.args.slot_at.level = omega (arith, some) in
    rw above at (c.try_paint_row.ensures.stays done ms patched)

pub try_paint_slot-returns-then-slot_at-gt1-clause-tree : goal.try_paint_slot-returns-then-slot_at-gt1-clause-tree
try_paint_slot-returns-then-slot_at-gt1-clause-tree t c = λ done ms patched outside.
    let some = c.requires.some in
    let above : c.args.slot_at.level - 1 + 1 ≡ c.args.slot_at.level = omega (arith, some) in
    let want : wanted ms c.args.slot_at.level c.args.slot_at.first ≡ variant.Table = rw above at (c.try_paint_row.ensures.stays done ms patched) in
    let row-is : c.deref_mut-then-slot_at-gt1.result.now ≡ c.in-Table.slots.value = c.deref_mut-then-slot_at-gt1.ensures.value ∙ ap (λ (b : Box (List Slot) Global). b.value) c.in-Table.slots-is in
    let parts = table-row c.args.slot.now c.in-Table.slots c.deref_mut-then-slot_at-gt1.result.now c.in-Table.is row-is in
    let table : is_table c.args.slot.now ≡ true = ap is_table c.in-Table.is ∙ is_table-Table c.in-Table.slots in
    let range = c.args.excerpt.now.range in
    let below = λ (k : ℕ) (less : k < 512). subst (λ (s : Slot). IsEncodableOutside ms range (c.args.slot_at.level - 1) (c.args.slot_at.first + k * pages_of (c.args.slot_at.level - 1)) s) (sym (parts k))
    (outside-parts ms range c.args.slot_at.level c.args.slot_at.first c.args.slot.now some table outside k less) in
    let held = values_o_at enum 4 (c.in-Table.slots, tt) in
    rw (c.in-Table.is, held) (IsTreeOf-table ms c.args.slot_at.level c.args.slot_at.first _ some want (c.try_paint_row.ensures.tree done ms patched below))

pub try_paint_slot-returns-then-slot_at-gt1-clause-lost : goal.try_paint_slot-returns-then-slot_at-gt1-clause-lost
try_paint_slot-returns-then-slot_at-gt1-clause-lost t c = λ done ms patched outside kind.
    let some = c.requires.some in
    let above : c.args.slot_at.level - 1 + 1 ≡ c.args.slot_at.level = omega (arith, some) in
    let want : wanted ms c.args.slot_at.level c.args.slot_at.first ≡ variant.Table = rw above at (c.try_paint_row.ensures.stays done ms patched) in
    let row-is : c.deref_mut-then-slot_at-gt1.result.now ≡ c.in-Table.slots.value = c.deref_mut-then-slot_at-gt1.ensures.value ∙ ap (λ (b : Box (List Slot) Global). b.value) c.in-Table.slots-is in
    let parts = table-row c.args.slot.now c.in-Table.slots c.deref_mut-then-slot_at-gt1.result.now c.in-Table.is row-is in
    let table : is_table c.args.slot.now ≡ true = ap is_table c.in-Table.is ∙ is_table-Table c.in-Table.slots in
    let range = c.args.excerpt.now.range in
    let below = λ (k : ℕ) (less : k < 512). subst (λ (s : Slot). IsEncodableOutside ms range (c.args.slot_at.level - 1) (c.args.slot_at.first + k * pages_of (c.args.slot_at.level - 1)) s) (sym (parts k))
    (outside-parts ms range c.args.slot_at.level c.args.slot_at.first c.args.slot.now some table outside k less) in
    let whole = lost-parts kind ms c.args.slot_at.level c.args.slot_at.first c.args.slot.now some want in
    let row = lost-divided ms (c.args.slot_at.level - 1) c.args.slot_at.first c.args.slot.now c.deref_mut-then-slot_at-gt1.result.now (λ k less. inl (sym (parts k))) kind in
    let none = c.try_paint_row.ensures.lost done ms patched below kind in
    omega (arith, whole, row, none)

pub try_paint_slot-returns-then-slot_at-gt1-clause-counted : goal.try_paint_slot-returns-then-slot_at-gt1-clause-counted
try_paint_slot-returns-then-slot_at-gt1-clause-counted t c = λ target.
    let row-is : c.deref_mut-then-slot_at-gt1.result.now ≡ c.in-Table.slots.value = c.deref_mut-then-slot_at-gt1.ensures.value ∙ ap (λ (b : Box (List Slot) Global). b.value) c.in-Table.slots-is in
    let same = c.try_paint_row.ensures.counted target ∙ ap (λ (r : List Slot). row_tables_at target (c.args.slot_at.level - 1) r) row-is in
    let held = values_o_at enum 4 (c.in-Table.slots, tt) in
    rw (c.in-Table.is, held) (kept-counted target c.args.slot_at.level c.in-Table.slots _ c.requires.some same)

pub try_paint_slot-returns-then-slot_at-gt1-clause-shaped : goal.try_paint_slot-returns-then-slot_at-gt1-clause-shaped
try_paint_slot-returns-then-slot_at-gt1-clause-shaped t c = λ shaped.
    let row-is : c.deref_mut-then-slot_at-gt1.result.now ≡ c.in-Table.slots.value = c.deref_mut-then-slot_at-gt1.ensures.value ∙ ap (λ (b : Box (List Slot) Global). b.value) c.in-Table.slots-is in
    let before : IsShaped c.args.slot_at.level (Table c.in-Table.slots) = subst (λ (s : Slot). IsShaped c.args.slot_at.level s) c.in-Table.is shaped in
    let parts = table-parts c.args.slot_at.level c.in-Table.slots c.requires.some before in
    let held = values_o_at enum 4 (c.in-Table.slots, tt) in
    rw (c.in-Table.is, held) (shaped-Table c.args.slot_at.level _ (omega arith)
    (c.try_paint_row.ensures.shaped (λ k below. subst (λ (l : List Slot). IsShaped (c.args.slot_at.level - 1) (slice_index_or l k Empty)) (sym row-is) (parts k below))))

-- the table of pages of a slot at level 1
pub try_paint_slot-try_paint_pages-requires-clause-in_space : goal.try_paint_slot-try_paint_pages-requires-clause-in_space
try_paint_slot-try_paint_pages-requires-clause-in_space t c = let whole = row-pages 0 in let one = ap pages_of c.if-slot_at-eq1.true in omega (arith, whole, one, c.requires.in_space)

pub try_paint_slot-try_paint_pages-requires-clause-met : goal.try_paint_slot-try_paint_pages-requires-clause-met
try_paint_slot-try_paint_pages-requires-clause-met t c =
    let whole : pages_of c.args.slot_at.level ≡ 512 * pages_of 0 = ap pages_of c.if-slot_at-eq1.true ∙ row-pages 0 in
    subst (λ (n : ℕ). meets (span c.args.slot_at.first n) c.args.excerpt.now.range ≡ true) whole c.requires.met

pub try_paint_slot-returns-then-slot_at-eq1-clause-stays : goal.try_paint_slot-returns-then-slot_at-eq1-clause-stays
try_paint_slot-returns-then-slot_at-eq1-clause-stays t c = λ done ms patched.
    subst (λ (n : ℕ). wanted ms n c.args.slot_at.first ≡ variant.Table) (sym c.if-slot_at-eq1.true) (c.try_paint_pages.ensures.stays done ms patched)

pub try_paint_slot-returns-then-slot_at-eq1-clause-tree : goal.try_paint_slot-returns-then-slot_at-eq1-clause-tree
try_paint_slot-returns-then-slot_at-eq1-clause-tree t c = λ done ms patched outside.
    let one = c.if-slot_at-eq1.true in
    let want : wanted ms c.args.slot_at.level c.args.slot_at.first ≡ variant.Table = subst (λ (n : ℕ). wanted ms n c.args.slot_at.first ≡ variant.Table) (sym one) (c.try_paint_pages.ensures.stays done ms patched) in
    let low : c.args.slot_at.level - 1 ≡ 0 = omega (arith, one) in
    let table : is_table c.args.slot.now ≡ true = ap is_table c.in-Pages.is ∙ is_table-Pages c.in-Pages.table in
    let range = c.args.excerpt.now.range in
    let below = λ (k : ℕ) (less : k < 512).
    let part = outside-parts ms range c.args.slot_at.level c.args.slot_at.first c.args.slot.now c.requires.some table outside k less in
    let is : child c.args.slot.now k ≡ slot_of (slice_index_or c.deref_mut.result.now.0 k no_page) =
    ap (λ (s : Slot). child s k) c.in-Pages.is ∙ child-Pages c.in-Pages.table k ∙
    sym (ap (λ (v : List PageSlot × Slot). slot_of (slice_index_or v.0 k no_page)) c.deref_mut.ensures.value ∙
    ap (λ (b : Box (List PageSlot × Slot) Global). slot_of (slice_index_or b.value.0 k no_page)) c.in-Pages.table-is) in
    subst (λ (s : Slot). IsEncodableOutside ms range 0 (c.args.slot_at.first + k * pages_of 0) s) is (rw low at part) in
    let held = values_o_at enum 3 (c.in-Pages.table, tt) in
    rw (c.in-Pages.is, held) (IsTreeOf-pages ms c.args.slot_at.level c.args.slot_at.first _ one want (c.try_paint_pages.ensures.tree done ms patched below))

pub try_paint_slot-returns-then-slot_at-eq1-clause-lost : goal.try_paint_slot-returns-then-slot_at-eq1-clause-lost
try_paint_slot-returns-then-slot_at-eq1-clause-lost t c = λ done ms patched outside kind.
    let one = c.if-slot_at-eq1.true in
    let want : wanted ms c.args.slot_at.level c.args.slot_at.first ≡ variant.Table = subst (λ (n : ℕ). wanted ms n c.args.slot_at.first ≡ variant.Table) (sym one) (c.try_paint_pages.ensures.stays done ms patched) in
    let whole = lost-parts kind ms c.args.slot_at.level c.args.slot_at.first c.args.slot.now c.requires.some want in
    let none = pages-lost kind ms (c.args.slot_at.level - 1) c.args.slot_at.first c.args.slot.now (omega (arith, one)) in
    omega (arith, whole, none)

pub try_paint_slot-returns-then-slot_at-eq1-clause-counted : goal.try_paint_slot-returns-then-slot_at-eq1-clause-counted
try_paint_slot-returns-then-slot_at-eq1-clause-counted t c = λ target.
    let one = c.if-slot_at-eq1.true in
    let held = values_o_at enum 3 (c.in-Pages.table, tt) in
    rw (c.in-Pages.is, held, one) (tables_at-pages target _ ∙ sym (tables_at-pages target c.in-Pages.table))

pub try_paint_slot-returns-then-slot_at-eq1-clause-shaped : goal.try_paint_slot-returns-then-slot_at-eq1-clause-shaped
try_paint_slot-returns-then-slot_at-eq1-clause-shaped t c = λ shaped.
    let held = values_o_at enum 3 (c.in-Pages.table, tt) in
    rw (c.in-Pages.is, held) (shaped-Pages c.args.slot_at.level _ c.if-slot_at-eq1.true)

pub try_paint_row-returns-clause-shaped : goal.try_paint_row-returns-clause-shaped
try_paint_row-returns-clause-shaped t c = λ all k below.
    let within : c.in-Some.index < length c.args.slots.now = search rules in
    let read = get_or_default c.args.slots.now c.in-Some.index c.index-slots-index.result Empty within in
    let here = c.try_paint_slot.ensures.shaped (subst (λ (s : Slot). IsShaped c.args.slot_at.level s) (sym read) (all c.in-Some.index c.in-Some.ensures.part.known)) in
    shaped-written c.args.slot_at.level c.args.slots.now c.in-Some.index c.try_paint_slot.new.slot within here all k below
