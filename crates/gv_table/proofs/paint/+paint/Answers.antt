use Rattle.std.proofs.Common.{rules, arith, inl, inr, IfSome, MatchOption, ◌≡◌, ◌+◌, ◌*◌, ◌<◌, ◌≤◌, ◌-◌, ℕ, nat_eq, true, false, length, slice_index_or, slice_set, List, Box, Global, refl, sym, ap, ◌∙◌, subst}
use Rattle.std.proofs.lemmas.Bool.{cases_lt}
use Rattle.std.proofs.Math.Nat.{add-mul}
use borrow.Enum.Total.{values_o_at}
use Rattle.gv_table.specs.Kinds.{Kind}
use Rattle.gv_table.specs.contracts.slot.Slot.{enum}
use Rattle.gv_types.specs.Page.{PAGES}
use Rattle.gv_types.specs.PageRange.{span, meets, end_of, covers}
use Rattle.gv_types.specs.Mapping.{part, IsMapping}
use Rattle.gv_table.proofs.UniformSlots.{copied-match, copied-some}
use Rattle.gv_table.specs.BufferNames.{PageSlot}
use Rattle.gv_table.specs.declared.slot.Slot.{Slot}
use Rattle.gv_table.specs.declared.slot.Slot.TheVariants.{Empty, Pages}
use Rattle.gv_ranges.specs.List.{IsIndexOfPage}
use Rattle.gv_table.specs.Levels.{pages_of, slot_pages, first_within}
use Rattle.gv_table.specs.declared.wanted.Wanted.TheVariants as variant
use Rattle.gv_table.specs.Wanted.{wanted, is_divided}
use Rattle.gv_table.specs.Shape.{IsShaped}
use Rattle.gv_table.specs.Tree.{IsTreeOf, IsEncodableOutside, is_table, child, slot_of, no_page}
use Rattle.gv_table.specs.Counts.{gained, tables_at, one_if, CountsSlot}
use Rattle.gv_table.proofs.TablesInSlots.{gained-parts, lost-parts, tables_at-other, tables_at-same, tables_at-parts, tables_at-pages}
use Rattle.gv_table.proofs.TablesAsWanted.{lost-whole, gained-none}
use Rattle.gv_table.proofs.CoveringMappings.{encoded-less}
use Rattle.gv_table.proofs.PagesOf.{pages_of-some, pages_of-below, part-within, one-more-part}
use Rattle.gv_table.proofs.NextSlotPainted.{table-row, row-tables, painted-below, painted-above, painted-gained, painted-lost, row-tree, row_gained-zero, row_lost-zero, gained-divided, lost-divided, pages-lost, pages-gained, pages-tables}
use Rattle.gv_table.proofs.OneSlotPainted.{row-pages, in-row, one-tree, one-gained, one-lost}
use Rattle.gv_table.proofs.ListPositions.{ended-later, position-ended}
use Rattle.gv_table.proofs.SlotWrittenBack.{is-read, is-written}
use Rattle.gv_table.proofs.Shapes.{pages-level, shaped-Pages, shaped-other, shaped-Table, shaped-written, table-level, table-parts}
use Rattle.gv_table.proofs.Slots.{is_table-Empty, is_table-leaf, no-table, child-Pages}
use Rattle.gv_table.proofs.TableCountUpdates.{divided-row, divided-counted, row-part, row-counted, row-still}
use Rattle.gv_table.proofs.RangesMeet.{meets-before}
use Rattle.gv_table.proofs.Sums.{sum_below-at}
use Rattle.gv_table.proofs.Trees.{IsTreeOf-pages, IsTreeOf-nothing, IsTreeOf-leaf, IsTreeOf-table, leaf-encoded, outside-apart, empty-apart}
use Rattle.gv_table.proofs.Wants.{table-above}
use Rattle.gv_table.proofs.paint.+paint.Goals as goal

pub paint_slots-loop-index-init : goal.paint_slots-loop-index-init
paint_slots-loop-index-init t c = record {
  from = omega arith;
  last = c.slots_met-low.ensures.ordered;
  position = ended-later c.args.excerpt.now.mappings.now (first_within c.args.excerpt.now.range c.args.slot_at.first) _ c.args.excerpt.now.position (omega arith) c.requires.position;
  painted = λ k below.
      let fits = part-within k (512 * pages_of c.args.slot_at.level) (pages_of c.args.slot_at.level) (omega (arith, c.slots_met-low.ensures.ordered, c.slots_met-low.ensures.within)) refl in
      let apart = meets-before (slot_pages c.args.slot_at.level (c.args.slot_at.first + k * pages_of c.args.slot_at.level)) c.args.excerpt.now.range (c.slots_met-low.ensures.before k below) in
      outside-apart c.args.excerpt.now.mappings.now c.args.excerpt.now.range c.args.slot_at.level (c.args.slot_at.first + k * pages_of c.args.slot_at.level) (slice_index_or c.args.slots.now k Empty)
      c.requires.laid_out (c.requires.outside k (omega (arith, c.slots_met-low.ensures.ordered, c.slots_met-low.ensures.within)))
      (omega (arith, fits, c.requires.in_space)) apart;
  untouched = λ k above. refl;
  shaped = c.requires.shaped;
  enough = c.requires.enough;
  put = λ kind. refl;
  present = λ target. refl;
  taken = λ kind. refl;
}

pub paint_slots-paint_slot-requires : goal.paint_slots-paint_slot-requires
paint_slots-paint_slot-requires t c =
    let ms = c.args.excerpt.now.mappings.now in
    let i : ℕ = c.loop-index.index in
    let within : c.loop-index.index < length c.loop-index.slots = search rules in
    let below : c.loop-index.index < 512 = omega (arith, c.loop-index-test.true, c.slots_met-low.ensures.within) in
    let from : c.slots_met-low.result.0 ≤ c.loop-index.index = c.loop-index.invariant.from in
    let read = is-read ms c.args.slot_at.level c.args.slot_at.first c.pages_of-pages.result i c.loop-index.slots c.index-slots-index.result within c.pages_of-pages.ensures.pages in
    let start = read.start in
    let gains = read.gains in
    let fits = part-within c.loop-index.index (512 * pages_of c.args.slot_at.level) (pages_of c.args.slot_at.level) below refl in
    let old = read.slot ∙ c.loop-index.invariant.untouched c.loop-index.index (omega arith) in
    let page : c.max.result ≡ first_within c.args.excerpt.now.range (c.args.slot_at.first + c.loop-index.index * c.pages_of-pages.result) = omega arith in
    let position-at = subst (λ (n : ℕ). IsIndexOfPage ms n c.advance-position.result) page c.advance-position.ensures in
    let part = λ (kind : Kind). sum_below-at 512 (λ (k : ℕ). gained kind ms c.args.slot_at.level (c.args.slot_at.first + k * pages_of c.args.slot_at.level) (slice_index_or c.loop-index.slots k Empty)) i below in (
      omega arith,
      (
        c.requires.some,
        (
          omega (arith, c.requires.known),
          (
            omega (arith, start, fits, c.requires.in_space),
            (
              c.requires.laid_out,
              (
                c.requires.encoded,
                (
                  position-at,
                  (
                    subst (λ (n : ℕ). meets (slot_pages c.args.slot_at.level n) c.args.excerpt.now.range ≡ true) (sym start) (c.slots_met-low.ensures.met c.loop-index.index from c.loop-index-test.true),
                    (
                      subst (λ (n : ℕ). IsEncodableOutside ms c.args.excerpt.now.range c.args.slot_at.level n (slice_index_or c.loop-index.slots c.loop-index.index c.index-slots-index.result)) (sym start)
                          (subst (λ (s : Slot). IsEncodableOutside ms c.args.excerpt.now.range c.args.slot_at.level (c.args.slot_at.first + c.loop-index.index * pages_of c.args.slot_at.level) s) (sym old)
                          (c.requires.outside c.loop-index.index below)),
                      (
                        λ kind. omega (arith, gains kind, part kind, c.loop-index.invariant.enough kind),
                        (
                          subst (λ (s : Slot). CountsSlot c.loop-index.counts c.args.slot_at.level s) (sym read.slot)
                              (row-part c.args.counts.now c.loop-index.counts c.args.slot_at.level c.loop-index.index c.args.slots.now c.loop-index.slots below c.requires.part c.loop-index.invariant.present),
                          subst (λ (s : Slot). IsShaped c.args.slot_at.level s) (sym read.slot) (c.loop-index.invariant.shaped c.loop-index.index below),
                        ),
                      ),
                    ),
                  ),
                ),
              ),
            ),
          ),
        ),
      ),
    )

pub paint_slots-loop-index-preserved-then-alike-eq0 : goal.paint_slots-loop-index-preserved-then-alike-eq0
paint_slots-loop-index-preserved-then-alike-eq0 t c =
    let inv = c.loop-index.invariant in
    let ms = c.args.excerpt.now.mappings.now in
    let level : ℕ = c.args.slot_at.level in
    let first : ℕ = c.args.slot_at.first in
    let i : ℕ = c.loop-index.index in
    let row = c.loop-index.slots in
    let after : List Slot = slice_set row i c.paint_slot.new.slot in
    let painted = c.paint_slot.ensures in
    let within : c.loop-index.index < length c.loop-index.slots = search rules in
    let below : c.loop-index.index < 512 = omega (arith, c.loop-index-test.true, c.slots_met-low.ensures.within) in
    let read = is-read ms level first c.pages_of-pages.result i row c.index-slots-index.result within c.pages_of-pages.ensures.pages in
    let w = is-written ms level first c.pages_of-pages.result i row c.index-slots-index.result c.paint_slot.new.slot within c.pages_of-pages.ensures.pages painted.tree in
    let g = λ (kind : Kind). painted-gained ms level first i c.args.slots.now row after w.same inv.untouched c.requires.laid_out w.here kind below in
    let l = λ (kind : Kind). painted-lost ms level first i c.args.slots.now row after w.same inv.untouched c.requires.laid_out w.here kind below in
    let next = one-more-part c.loop-index.index (pages_of c.args.slot_at.level) in
    record {
      from = omega (arith, inv.from);
      last = omega (arith, c.loop-index-test.true);
      position = position-ended ms c.max.result _ c.advance-position.result (omega (arith, read.start, next)) c.advance-position.ensures;
      painted = painted-below ms level first i c.args.slots.now row after w.same inv.untouched c.requires.laid_out w.here inv.painted;
      untouched = painted-above ms level first i c.args.slots.now row after w.same inv.untouched c.requires.laid_out w.here;
      shaped = shaped-written level row i c.paint_slot.new.slot within painted.shaped inv.shaped;
      enough = λ kind. omega (arith, read.gains kind, g kind, inv.enough kind, painted.taken kind);
      put = λ kind. omega (arith, read.loses kind, l kind, inv.put kind, painted.put kind);
      present = row-counted c.args.counts.now c.loop-index.counts c.paint_slot.new.counts level i c.args.slots.now row after below w.same inv.present
          (w.counted c.loop-index.counts c.paint_slot.new.counts painted.counted);
      taken = λ kind. omega (arith, read.gains kind, g kind, inv.taken kind, painted.taken kind);
    }

-- a run of slots that are alike is painted
pub paint_slots-paint_alike-requires : goal.paint_slots-paint_alike-requires
paint_slots-paint_alike-requires t c =
    let ms = c.args.excerpt.now.mappings.now in
    let p : ℕ = pages_of c.args.slot_at.level in
    let i : ℕ = c.loop-index.index in
    let held = c.alike_from-count.result.held in
    let start : c.args.slot_at.first + c.loop-index.index * c.pages_of-pages.result ≡ c.args.slot_at.first + c.loop-index.index * pages_of c.args.slot_at.level =
    ap (λ (n : ℕ). c.args.slot_at.first + c.loop-index.index * n) c.pages_of-pages.ensures.pages in
    let there : (k : ℕ) → i ≤ k → c.args.slot_at.first + i * c.pages_of-pages.result + (k - i) * p ≡ c.args.slot_at.first + k * p = λ k from.
    let product = add-mul i (k - i) p in
    let all : (i + (k - i)) * p ≡ k * p = ap (λ (m : ℕ). m * p) (omega (arith, from)) in
    omega (arith, start, product, all) in
    record {
      some = c.requires.some;
      known = c.requires.known;
      in_space = c.requires.in_space;
      shaped = c.loop-index.invariant.shaped;
      laid_out = c.requires.laid_out;
      encoded = c.requires.encoded;
      ordered = omega arith;
      within = omega (arith, c.min-alike.ensures, c.loop-index-test.true, c.slots_met-low.ensures.within);
      wanted = λ k from below.
          copied-match c.as_ref.result held _ (λ m. wanted ms c.args.slot_at.level (c.args.slot_at.first + k * p) ≡ variant.Entry (part m (c.args.slot_at.first + k * p))) c.as_ref.ensures.value
          (subst (λ (n : ℕ). MatchOption held (wanted ms c.args.slot_at.level n ≡ variant.Nothing) (λ m. wanted ms c.args.slot_at.level n ≡ variant.Entry (part m n)))
          (there k from) (c.alike_from-count.ensures.wanted (k - i) (omega (arith, from, below, c.min-alike.ensures))));
      mapping = copied-some c.as_ref.result held IsMapping c.as_ref.ensures.value c.alike_from-count.ensures.mapping;
      covered = λ k from below.
          copied-some c.as_ref.result held (λ m. covers m.range (c.args.slot_at.first + k * p) ≡ true) c.as_ref.ensures.value
          (subst (λ (n : ℕ). IfSome held (λ m. covers m.range n ≡ true)) (there k from)
          (c.alike_from-count.ensures.covered (k - i) (omega (arith, from, below, c.min-alike.ensures))));
      part = row-still c.args.counts.now c.loop-index.counts c.args.slot_at.level c.args.slots.now c.loop-index.slots c.requires.part c.loop-index.invariant.present;
    }

pub paint_slots-loop-index-preserved : goal.paint_slots-loop-index-preserved
paint_slots-loop-index-preserved t c =
    let inv = c.loop-index.invariant in
    let ms = c.args.excerpt.now.mappings.now in
    let p : ℕ = pages_of c.args.slot_at.level in
    let i : ℕ = c.loop-index.index in
    let n : ℕ = c.min-alike.result in
    let row = c.loop-index.slots in
    let after = c.paint_alike.new.slots in
    let painted = c.paint_alike.ensures in
    let start : c.args.slot_at.first + c.loop-index.index * c.pages_of-pages.result ≡ c.args.slot_at.first + c.loop-index.index * pages_of c.args.slot_at.level =
    ap (λ (n : ℕ). c.args.slot_at.first + c.loop-index.index * n) c.pages_of-pages.ensures.pages in
    let product = add-mul c.loop-index.index c.min-alike.result p in
    record {
      from = omega (arith, inv.from);
      last = omega (arith, c.loop-index-test.true, c.min-alike.ensures);
      position = position-ended ms c.max.result _ c.advance-position.result (omega (arith, start, product)) c.advance-position.ensures;
      painted = λ k below. elim (cases_lt k c.loop-index.index) [
        | inl less ↦ subst (λ (s : Slot). IsTreeOf ms c.args.slot_at.level (c.args.slot_at.first + k * pages_of c.args.slot_at.level) s) (sym (painted.before k less)) (inv.painted k less)
        | inr from ↦ painted.painted k from below
      ];
      untouched = λ k from. painted.behind k from ∙ inv.untouched k (omega (arith, from));
      shaped = painted.shaped;
      enough = λ kind. omega (arith, painted.gained kind, inv.enough kind);
      put = λ kind. omega (arith, painted.put kind, inv.put kind);
      present = λ target. let counts = inv.present target in let end = painted.counted target in omega (arith, counts, end);
      taken = λ kind. omega (arith, painted.gained kind, inv.taken kind);
    }

pub paint_slots-returns : goal.paint_slots-returns
paint_slots-returns t c =
    let ms = c.args.excerpt.now.mappings.now in
    let inv = c.loop-index.invariant in
    let tree = row-tree ms c.args.excerpt.now.range c.args.slot_at.level c.args.slot_at.first c.loop-index.index c.args.slots.now c.loop-index.slots c.requires.laid_out c.requires.in_space
    inv.painted inv.untouched c.requires.outside
    (λ k from below. c.slots_met-low.ensures.beyond k (omega (arith, c.loop-index-test.false)) below) in
    let g = λ (kind : Kind). row_gained-zero kind ms c.args.slot_at.level c.args.slot_at.first c.loop-index.slots c.requires.laid_out tree in
    let l = λ (kind : Kind). row_lost-zero kind ms c.args.slot_at.level c.args.slot_at.first c.loop-index.slots c.requires.laid_out tree in
    record {
      tree = tree;
      shaped = inv.shaped;
      taken = λ kind. omega (arith, g kind, inv.taken kind);
      put = λ kind. omega (arith, l kind, inv.put kind);
      counted = inv.present;
    }

pub paint_slot-overflow_sub-slot_at : goal.paint_slot-overflow_sub-slot_at
paint_slot-overflow_sub-slot_at t c =
    let some = table-above _ c.args.slot_at.level c.args.slot_at.first (sym c.slot_wanted.ensures ∙ c.in-Table.is) in omega (arith, some)

pub paint_slot-returns-in-Nothing : goal.paint_slot-returns-in-Nothing
paint_slot-returns-in-Nothing t c =
    let ms = c.args.excerpt.now.mappings.now in
    let want = sym c.slot_wanted.ensures ∙ c.in-Nothing.is in
    let none : is_divided _ ≡ false = ap is_divided want in
    let g = λ (kind : Kind). gained-none kind ms c.args.slot_at.level c.args.slot_at.first c.args.slot.now none in
    let l = λ (kind : Kind). lost-whole kind ms c.args.slot_at.level c.args.slot_at.first c.args.slot.now c.requires.laid_out none in
    record {
      tree = IsTreeOf-nothing _ c.args.slot_at.level c.args.slot_at.first _ want c.clear_unwanted.ensures.emptied;
      shaped = shaped-other c.args.slot_at.level c.clear_unwanted.new.slot (ap is_table c.clear_unwanted.ensures.emptied ∙ is_table-Empty);
      taken = λ kind. omega (arith, g kind);
      put = λ kind. omega (arith, l kind, c.clear_unwanted.ensures.put kind);
      counted = λ target.
          let leaf = tables_at-other target c.args.slot_at.level c.clear_unwanted.new.slot (ap is_table c.clear_unwanted.ensures.emptied ∙ is_table-Empty) in
          let given = c.clear_unwanted.ensures.counted target in
          omega (arith, leaf, given);
    }

pub paint_slot-make_leaf-requires-clause-encoded : goal.paint_slot-make_leaf-requires-clause-encoded
paint_slot-make_leaf-requires-clause-encoded t c =
    let ms = c.args.excerpt.now.mappings.now in
    let want = sym c.slot_wanted.ensures ∙ c.in-Entry.is in
    let some = pages_of-some c.args.slot_at.level in
    encoded-less c.in-Entry.entry.backing 1 (pages_of c.args.slot_at.level)
    (leaf-encoded ms c.args.slot_at.level c.args.slot_at.first c.in-Entry.entry c.requires.laid_out c.requires.encoded
    (IsTreeOf-leaf ms c.args.slot_at.level c.args.slot_at.first c.in-Entry.entry _ want refl)) (omega (arith, some))

pub paint_slot-returns-in-Entry : goal.paint_slot-returns-in-Entry
paint_slot-returns-in-Entry t c =
    let ms = c.args.excerpt.now.mappings.now in
    let want = sym c.slot_wanted.ensures ∙ c.in-Entry.is in
    let none : is_divided _ ≡ false = ap is_divided want in
    let g = λ (kind : Kind). gained-none kind ms c.args.slot_at.level c.args.slot_at.first c.args.slot.now none in
    let l = λ (kind : Kind). lost-whole kind ms c.args.slot_at.level c.args.slot_at.first c.args.slot.now c.requires.laid_out none in
    record {
      tree = IsTreeOf-leaf _ c.args.slot_at.level c.args.slot_at.first c.in-Entry.entry _ want c.make_leaf.ensures.leaf;
      shaped = shaped-other c.args.slot_at.level c.make_leaf.new.slot (ap is_table c.make_leaf.ensures.leaf ∙ is_table-leaf c.in-Entry.entry);
      taken = λ kind. omega (arith, g kind);
      put = λ kind. omega (arith, l kind, c.make_leaf.ensures.put kind);
      counted = λ target.
          let leaf = tables_at-other target c.args.slot_at.level c.make_leaf.new.slot (ap is_table c.make_leaf.ensures.leaf ∙ is_table-leaf c.in-Entry.entry) in
          let given = c.make_leaf.ensures.counted target in
          omega (arith, leaf, given);
    }

pub paint_slots-advance-position-requires-clause-ended : goal.paint_slots-advance-position-requires-clause-ended
paint_slots-advance-position-requires-clause-ended t c =
    let same = ap (λ (n : ℕ). c.loop-index.index * n) c.pages_of-pages.ensures.pages in
    ended-later c.args.excerpt.now.mappings.now _ c.max.result c.loop-index.position (omega (arith, same)) c.loop-index.invariant.position

pub paint_slot-make_table-requires-clause-some : goal.paint_slot-make_table-requires-clause-some
paint_slot-make_table-requires-clause-some t c = table-above _ c.args.slot_at.level c.args.slot_at.first (sym c.slot_wanted.ensures ∙ c.in-Table.is)

pub paint_slot-make_table-requires-clause-enough : goal.paint_slot-make_table-requires-clause-enough
paint_slot-make_table-requires-clause-enough t c =
    let want = sym c.slot_wanted.ensures ∙ c.in-Table.is in
    let e = λ (kind : Kind). gained-parts kind c.args.excerpt.now.mappings.now c.args.slot_at.level c.args.slot_at.first c.args.slot.now (table-above _ c.args.slot_at.level c.args.slot_at.first want) want in
    λ kind. omega (arith, e kind, c.requires.enough kind)

pub paint_slot-paint_row-requires : goal.paint_slot-paint_row-requires
paint_slot-paint_row-requires t c =
    let ms = c.args.excerpt.now.mappings.now in
    let want = sym c.slot_wanted.ensures ∙ c.in-Table.is in
    let some = table-above ms c.args.slot_at.level c.args.slot_at.first want in
    let row-is : c.deref_mut-in-Table-slot.result.now ≡ c.in-Table-slot.slots.value = c.deref_mut-in-Table-slot.ensures.value ∙ ap (λ (b : Box (List Slot) Global). b.value) c.in-Table-slot.slots-is in
    let shaped = subst (λ (s : Slot). IsShaped c.args.slot_at.level s) c.in-Table-slot.is c.make_table.ensures.shaped in
    let high = table-level c.args.slot_at.level c.in-Table-slot.slots some shaped in
    let parts = table-row c.make_table.new.slot c.in-Table-slot.slots c.deref_mut-in-Table-slot.result.now c.in-Table-slot.is row-is in
    let tables = row-tables c.args.slot.now c.make_table.new.slot c.deref_mut-in-Table-slot.result.now parts c.make_table.ensures.divided.tables in
    let below-of = pages_of-below c.args.slot_at.level some in
    let gains = λ (kind : Kind). gained-divided ms (c.args.slot_at.level - 1) c.args.slot_at.first c.args.slot.now c.deref_mut-in-Table-slot.result.now tables kind in
    let gain = λ (kind : Kind). gained-parts kind ms c.args.slot_at.level c.args.slot_at.first c.args.slot.now some want in (
      omega (arith, some),
      (
        omega (arith, high),
        (
          omega (arith, c.requires.known),
          (
            omega (arith, below-of, c.requires.in_space),
            (
              c.requires.laid_out,
              (
                c.requires.encoded,
                (
                  c.requires.position,
                  (
                    subst (λ (n : ℕ). meets (span c.args.slot_at.first n) c.args.excerpt.now.range ≡ true) below-of c.requires.met,
                    (
                      λ k below. record {
                        earlier = c.requires.outside.earlier;
                        laid_out = c.requires.outside.laid_out;
                        encoded = c.requires.outside.encoded;
                        alike = c.requires.outside.alike;
                        tree = subst (λ (s : Slot). IsTreeOf c.requires.outside.earlier (c.args.slot_at.level - 1) (c.args.slot_at.first + k * pages_of (c.args.slot_at.level - 1)) s) (sym (parts k))
                            (c.make_table.ensures.divided.parts c.requires.outside.earlier c.args.slot_at.first c.requires.outside.laid_out c.requires.outside.encoded c.requires.outside.tree k below);
                      },
                      (
                        λ kind. omega (arith, gains kind, gain kind, c.make_table.ensures.taken kind, c.requires.enough kind),
                        (
                          divided-row c.args.counts.now c.make_table.new.counts c.args.slot_at.level c.args.slot.now c.deref_mut-in-Table-slot.result.now some c.requires.part
                              c.make_table.ensures.counted
                              (λ target k below. sym (tables_at-same target (c.args.slot_at.level - 1) _ _ (tables k below))),
                          λ k below. subst (λ (l : List Slot). IsShaped (c.args.slot_at.level - 1) (slice_index_or l k Empty)) (sym row-is) (table-parts c.args.slot_at.level c.in-Table-slot.slots some shaped k below),
                        ),
                      ),
                    ),
                  ),
                ),
              ),
            ),
          ),
        ),
      ),
    )

pub paint_slot-unreachable-requires : goal.paint_slot-unreachable-requires
paint_slot-unreachable-requires t c =
    let bad : true ≡ false = sym c.make_table.ensures.divided.table ∙ no-table _ c.in-Empty.is in cc

pub paint_slot-returns-in-Table-slot : goal.paint_slot-returns-in-Table-slot
paint_slot-returns-in-Table-slot t c =
    let ms = c.args.excerpt.now.mappings.now in
    let want = sym c.slot_wanted.ensures ∙ c.in-Table.is in
    let some = table-above ms c.args.slot_at.level c.args.slot_at.first want in
    let row-is : c.deref_mut-in-Table-slot.result.now ≡ c.in-Table-slot.slots.value = c.deref_mut-in-Table-slot.ensures.value ∙ ap (λ (b : Box (List Slot) Global). b.value) c.in-Table-slot.slots-is in
    let shaped = subst (λ (s : Slot). IsShaped c.args.slot_at.level s) c.in-Table-slot.is c.make_table.ensures.shaped in
    let high = table-level c.args.slot_at.level c.in-Table-slot.slots some shaped in
    let parts = table-row c.make_table.new.slot c.in-Table-slot.slots c.deref_mut-in-Table-slot.result.now c.in-Table-slot.is row-is in
    let tables = row-tables c.args.slot.now c.make_table.new.slot c.deref_mut-in-Table-slot.result.now parts c.make_table.ensures.divided.tables in
    let held = values_o_at enum 4 (c.in-Table-slot.slots, tt) in
    let gains = λ (kind : Kind). gained-divided ms (c.args.slot_at.level - 1) c.args.slot_at.first c.args.slot.now c.deref_mut-in-Table-slot.result.now tables kind in
    let gain = λ (kind : Kind). gained-parts kind ms c.args.slot_at.level c.args.slot_at.first c.args.slot.now some want in
    let losses = λ (kind : Kind). lost-divided ms (c.args.slot_at.level - 1) c.args.slot_at.first c.args.slot.now c.deref_mut-in-Table-slot.result.now tables kind in
    let loss = λ (kind : Kind). lost-parts kind ms c.args.slot_at.level c.args.slot_at.first c.args.slot.now some want in
    let down = c.paint_row.ensures in
    record {
      tree = rw (c.in-Table-slot.is, held) (IsTreeOf-table _ c.args.slot_at.level c.args.slot_at.first _ some want down.tree);
      shaped = rw (c.in-Table-slot.is, held) (shaped-Table c.args.slot_at.level _ high down.shaped);
      taken = λ kind. omega (arith, gains kind, gain kind, c.make_table.ensures.taken kind, down.taken kind);
      put = λ kind. omega (arith, losses kind, loss kind, down.put kind);
      counted = rw (c.in-Table-slot.is, held) (divided-counted c.args.counts.now c.make_table.new.counts c.paint_row.new.counts c.args.slot_at.level c.args.slot.now c.deref_mut-in-Table-slot.result.now _ some
          c.make_table.ensures.counted (λ target k below. sym (tables_at-same target (c.args.slot_at.level - 1) _ _ (tables k below))) down.counted);
    }

-- the table of pages of a slot at level 1
pub paint_slot-paint_pages_of_list-requires : goal.paint_slot-paint_pages_of_list-requires
paint_slot-paint_pages_of_list-requires t c =
    let ms = c.args.excerpt.now.mappings.now in
    let want = sym c.slot_wanted.ensures ∙ c.in-Table.is in
    let some = table-above ms c.args.slot_at.level c.args.slot_at.first want in
    let one = pages-level c.args.slot_at.level c.in-Pages.table some (subst (λ (s : Slot). IsShaped c.args.slot_at.level s) c.in-Pages.is c.make_table.ensures.shaped) in
    let low : c.args.slot_at.level - 1 ≡ 0 = omega (arith, one) in
    let below-of = pages_of-below c.args.slot_at.level some in
    let whole : pages_of c.args.slot_at.level ≡ 512 * pages_of 0 = rw low at below-of in
    let row-is : c.deref_mut.result.now.0 ≡ c.in-Pages.table.value.0 =
    ap (λ (v : List PageSlot × Slot). v.0) c.deref_mut.ensures.value ∙ ap (λ (b : Box (List PageSlot × Slot) Global). b.value.0) c.in-Pages.table-is in
    record {
      in_space = omega (arith, whole, c.requires.in_space);
      laid_out = c.requires.laid_out;
      encoded = c.requires.encoded;
      position = position-ended ms _ _ c.args.excerpt.now.position (omega arith) c.requires.position;
      met = subst (λ (n : ℕ). meets (span c.args.slot_at.first n) c.args.excerpt.now.range ≡ true) whole c.requires.met;
      outside = λ k below.
          let held : child c.make_table.new.slot k ≡ slot_of (slice_index_or c.deref_mut.result.now.0 k no_page) =
          ap (λ (s : Slot). child s k) c.in-Pages.is ∙ child-Pages c.in-Pages.table k ∙ ap (λ (l : List PageSlot). slot_of (slice_index_or l k no_page)) (sym row-is) in
          let part = c.make_table.ensures.divided.parts c.requires.outside.earlier c.args.slot_at.first c.requires.outside.laid_out c.requires.outside.encoded c.requires.outside.tree k below in
          record {
            earlier = c.requires.outside.earlier;
            laid_out = c.requires.outside.laid_out;
            encoded = c.requires.outside.encoded;
            alike = c.requires.outside.alike;
            tree = subst (λ (s : Slot). IsTreeOf c.requires.outside.earlier 0 (c.args.slot_at.first + k * pages_of 0) s) held (rw low at part);
          };
    }

-- where a table of pages is counted, that one is
counted-pages : (target level after before old : ℕ) (pages : Box (List PageSlot × Slot) Global) → level ≡ 1 → after + old ≡ before + one_if (nat_eq target (level - 1)) →
    after + old ≡ before + tables_at target level (Pages pages)
counted-pages target level after before old pages one counted =
    let now = ap (λ (n : ℕ). tables_at target n (Pages pages)) one ∙ tables_at-pages target pages in
    let low : level - 1 ≡ 0 = omega (arith, one) in
    let same = ap (λ (n : ℕ). one_if (nat_eq target n)) low in
    omega (arith, now, same, counted)

pub paint_slot-returns-in-Pages : goal.paint_slot-returns-in-Pages
paint_slot-returns-in-Pages t c =
    let ms = c.args.excerpt.now.mappings.now in
    let want = sym c.slot_wanted.ensures ∙ c.in-Table.is in
    let some = table-above ms c.args.slot_at.level c.args.slot_at.first want in
    let one = pages-level c.args.slot_at.level c.in-Pages.table some (subst (λ (s : Slot). IsShaped c.args.slot_at.level s) c.in-Pages.is c.make_table.ensures.shaped) in
    let low : c.args.slot_at.level - 1 ≡ 0 = omega (arith, one) in
    let held = values_o_at enum 3 (c.in-Pages.table, tt) in
    let gain = λ (kind : Kind). gained-parts kind ms c.args.slot_at.level c.args.slot_at.first c.args.slot.now some want in
    let loss = λ (kind : Kind). lost-parts kind ms c.args.slot_at.level c.args.slot_at.first c.args.slot.now some want in
    let gains = λ (kind : Kind). pages-gained kind ms (c.args.slot_at.level - 1) c.args.slot_at.first c.args.slot.now low in
    let losses = λ (kind : Kind). pages-lost kind ms (c.args.slot_at.level - 1) c.args.slot_at.first c.args.slot.now low in
    record {
      tree = rw (c.in-Pages.is, held) (IsTreeOf-pages ms c.args.slot_at.level c.args.slot_at.first _ one want c.paint_pages_of_list.ensures);
      shaped = rw (c.in-Pages.is, held) (shaped-Pages c.args.slot_at.level _ one);
      taken = λ kind. omega (arith, gains kind, gain kind, c.make_table.ensures.taken kind);
      put = λ kind. omega (arith, losses kind, loss kind);
      counted = rw (c.in-Pages.is, held) (λ target.
          let whole = tables_at-parts target c.args.slot_at.level c.args.slot.now some in
          let none = pages-tables target (c.args.slot_at.level - 1) c.args.slot.now low in
          let made = c.make_table.ensures.counted target in
          counted-pages target c.args.slot_at.level _ _ _ _ one (omega (arith, whole, none, made)));
    }

pub paint_slot-clear_unwanted-requires-clause-rest : goal.paint_slot-clear_unwanted-requires-clause-rest
paint_slot-clear_unwanted-requires-clause-rest t c = λ one k below apart.
    let ms = c.args.excerpt.now.mappings.now in
    let range = c.args.excerpt.now.range in
    let want : wanted ms c.args.slot_at.level c.args.slot_at.first ≡ variant.Nothing = sym c.slot_wanted.ensures ∙ c.in-Nothing.is in
    empty-apart ms range c.args.slot_at.first c.args.slot.now c.requires.laid_out
    (subst (λ (n : ℕ). IsEncodableOutside ms range n c.args.slot_at.first c.args.slot.now) one c.requires.outside)
    (subst (λ (n : ℕ). end_of (slot_pages n c.args.slot_at.first) ≤ PAGES) one c.requires.in_space)
    (subst (λ (n : ℕ). wanted ms n c.args.slot_at.first ≡ variant.Nothing) one want) k below apart

pub paint_row-part_around-requires-clause-in_space : goal.paint_row-part_around-requires-clause-in_space
paint_row-part_around-requires-clause-in_space t c = let pages = row-pages c.args.slot_at.level in omega (arith, pages, c.requires.in_space)

pub paint_row-part_around-requires-clause-met : goal.paint_row-part_around-requires-clause-met
paint_row-part_around-requires-clause-met t c =
    subst (λ (n : ℕ). meets (span c.args.slot_at.first n) c.args.excerpt.now.range ≡ true) (sym (row-pages c.args.slot_at.level)) c.requires.met

pub paint_row-paint_slot-requires : goal.paint_row-paint_slot-requires
paint_row-paint_slot-requires t c =
    let ms = c.args.excerpt.now.mappings.now in
    let range = c.args.excerpt.now.range in
    let i : ℕ = c.in-Some.index in
    let row = c.args.slots.now in
    let within : c.in-Some.index < length c.args.slots.now = search rules in
    let is = c.in-Some.ensures.part in
    let below : i < 512 = is.known in
    let lies = in-row range c.args.slot_at.level c.args.slot_at.first i is in
    let from = lies.from in
    let fits = part-within i (512 * pages_of c.args.slot_at.level) (pages_of c.args.slot_at.level) below refl in
    let read = is-read ms c.args.slot_at.level c.args.slot_at.first c.pages_of.result i row c.index-slots-index.result within c.pages_of.ensures.pages in
    let start = read.start in
    let slot = read.slot in
    let gains = read.gains in
    let page : first_within range c.args.slot_at.first ≡ first_within range (c.args.slot_at.first + i * c.pages_of.result) = omega (arith, start, from) in
    let lower : c.args.slot_at.level + 1 - 1 ≡ c.args.slot_at.level = omega arith in
    let met : meets (slot_pages c.args.slot_at.level (c.args.slot_at.first + i * pages_of c.args.slot_at.level)) range ≡ true = rw lower at c.in-Some.ensures.met in
    let part = λ (kind : Kind). sum_below-at 512 (λ (k : ℕ). gained kind ms c.args.slot_at.level (c.args.slot_at.first + k * pages_of c.args.slot_at.level) (slice_index_or row k Empty)) i below in (
      omega arith,
      (
        c.requires.some,
        (
          omega (arith, c.requires.known),
          (
            omega (arith, start, fits, c.requires.in_space),
            (
              c.requires.laid_out,
              (
                c.requires.encoded,
                (
                  subst (λ (n : ℕ). IsIndexOfPage ms n c.args.excerpt.now.position) page c.requires.position,
                  (
                    subst (λ (n : ℕ). meets (slot_pages c.args.slot_at.level n) range ≡ true) (sym start) met,
                    (
                      subst (λ (n : ℕ). IsEncodableOutside ms range c.args.slot_at.level n (slice_index_or row i c.index-slots-index.result)) (sym start)
                          (subst (λ (s : Slot). IsEncodableOutside ms range c.args.slot_at.level (c.args.slot_at.first + i * pages_of c.args.slot_at.level) s) (sym slot)
                          (c.requires.outside i below)),
                      (
                        λ kind. omega (arith, gains kind, part kind, c.requires.enough kind),
                        (
                          subst (λ (s : Slot). CountsSlot c.args.counts.now c.args.slot_at.level s) (sym slot)
                              (row-part c.args.counts.now c.args.counts.now c.args.slot_at.level i row row below c.requires.part (λ target. refl)),
                          subst (λ (s : Slot). IsShaped c.args.slot_at.level s) (sym slot) (c.requires.shaped i below),
                        ),
                      ),
                    ),
                  ),
                ),
              ),
            ),
          ),
        ),
      ),
    )

pub paint_row-returns-in-Some : goal.paint_row-returns-in-Some
paint_row-returns-in-Some t c =
    let ms = c.args.excerpt.now.mappings.now in
    let range = c.args.excerpt.now.range in
    let level : ℕ = c.args.slot_at.level in
    let first : ℕ = c.args.slot_at.first in
    let i : ℕ = c.in-Some.index in
    let row = c.args.slots.now in
    let after : List Slot = slice_set row i c.paint_slot.new.slot in
    let painted = c.paint_slot.ensures in
    let within : c.in-Some.index < length c.args.slots.now = search rules in
    let is = c.in-Some.ensures.part in
    let lies = in-row range level first i is in
    let read = is-read ms level first c.pages_of.result i row c.index-slots-index.result within c.pages_of.ensures.pages in
    let w = is-written ms level first c.pages_of.result i row c.index-slots-index.result c.paint_slot.new.slot within c.pages_of.ensures.pages painted.tree in
    let g = λ (kind : Kind). one-gained ms range level first i row after c.requires.laid_out c.requires.in_space is.known lies c.requires.outside w.same w.here kind in
    let l = λ (kind : Kind). one-lost ms range level first i row after c.requires.laid_out c.requires.in_space is.known lies c.requires.outside w.same w.here kind in
    record {
      tree = one-tree ms range level first i row after c.requires.laid_out c.requires.in_space is.known lies c.requires.outside w.same w.here;
      shaped = shaped-written level row i c.paint_slot.new.slot within painted.shaped c.requires.shaped;
      taken = λ kind. omega (arith, read.gains kind, g kind, painted.taken kind);
      put = λ kind. omega (arith, read.loses kind, l kind, painted.put kind);
      counted = row-counted c.args.counts.now c.args.counts.now c.paint_slot.new.counts level i row row after is.known w.same (λ target. refl)
          (w.counted c.args.counts.now c.paint_slot.new.counts painted.counted);
    }
