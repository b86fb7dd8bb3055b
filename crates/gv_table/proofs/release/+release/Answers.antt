use Rattle.std.proofs.Common.{rules, arith, subst, ◌≡◌, ◌<◌, ◌∙◌, sym, ap, ℕ, ◌-◌, length, false, slice_index_or, refl}
use Rattle.gv_table.specs.Kinds.{Kind}
use Rattle.gv_table.specs.declared.slot.Slot.{Slot}
use Rattle.gv_table.specs.declared.slot.Slot.TheVariants.{Empty, Pages, Table}
use Rattle.gv_table.specs.Sums.{sum_below}
use Rattle.gv_table.specs.Shape.{IsShaped}
use Rattle.gv_table.specs.Tree.{is_table}
use Rattle.gv_table.specs.Counts.{tables_in, tables_at}
use Rattle.gv_table.proofs.TablesInSlots.{tables_in-other, tables_in-Table, tables_at-other, tables_at-Table, one_if-here}
use Rattle.gv_table.proofs.KindLemmas.{one_of-high}
use Rattle.gv_table.proofs.RowLoops.{row-below, row-above, row-read}
use Rattle.gv_table.proofs.Shapes.{pages-level, table-parts}
use Rattle.gv_table.proofs.Slots.{no-table}
use Rattle.gv_table.proofs.Sums.{sum_below-none, sum_below-more, sum_below-part}
use Rattle.gv_table.proofs.release.+release.Goals as goal

pub loop-index-init : goal.loop-index-init
loop-index-init t c = record {
  below = λ k below. absurd (omega arith);
  above = λ k above. refl;
  present = λ target. let e = sum_below-none (λ k. tables_at target (c.args.level - 1) (slice_index_or c.in-Table.slots.value k Empty)) in omega (arith, e);
  put = λ kind. (let e = sum_below-none (λ k. tables_in kind (c.args.level - 1) (slice_index_or c.in-Table.slots.value k Empty)) in omega (arith, e));
}

pub loop-index-preserved : goal.loop-index-preserved
loop-index-preserved t c =
    let within : c.loop-index.index < length c.deref_mut.result.now = search rules in
    let read = row-read c.deref_mut.result.now c.loop-index.slots.value c.in-Table.slots.value c.loop-index.index c.index-deref_mut-index.result
    c.deref_mut.ensures.value within c.loop-index.invariant.above in
    let one = λ (kind : Kind). ap (λ (s : Slot). tables_in kind (c.args.level - 1) s) read in
    let more = λ (kind : Kind). sum_below-more c.loop-index.index (λ k. tables_in kind (c.args.level - 1) (slice_index_or c.in-Table.slots.value k Empty)) in
    let within' : c.loop-index.index < length c.loop-index.slots.value = rw (← c.deref_mut.ensures.value) within in
    record {
      below = rw c.deref_mut.ensures.value (row-below (λ k s. s ≡ Empty) c.loop-index.slots.value c.loop-index.index _ within' c.release.ensures.emptied c.loop-index.invariant.below);
      above = rw c.deref_mut.ensures.value (row-above c.loop-index.slots.value c.in-Table.slots.value c.loop-index.index _ c.loop-index.invariant.above);
      present = λ target.
          let one' = ap (λ (s : Slot). tables_at target (c.args.level - 1) s) read in
          let more' = sum_below-more c.loop-index.index (λ k. tables_at target (c.args.level - 1) (slice_index_or c.in-Table.slots.value k Empty)) in
          let before = c.loop-index.invariant.present target in
          let after = c.release.ensures.counted target in
          omega (arith, one', more', before, after);
      put = λ kind. omega (arith, more kind, one kind, c.loop-index.invariant.put kind, c.release.ensures.put kind);
    }

pub release-requires : goal.release-requires
release-requires t c =
    let within : c.loop-index.index < length c.deref_mut.result.now = search rules in
    let read = row-read c.deref_mut.result.now c.loop-index.slots.value c.in-Table.slots.value c.loop-index.index c.index-deref_mut-index.result
    c.deref_mut.ensures.value within c.loop-index.invariant.above in
    let table : Table c.in-Table.slots ≡ c.args.slot.now = sym c.in-Table.is ∙ c.replace.ensures.value in (
      omega arith,
      (
        omega arith,
        (
          omega (arith, c.requires.known),
          (
            subst (λ (s : Slot). IsShaped (c.args.level - 1) s) (sym read)
                (table-parts c.args.level c.in-Table.slots (omega arith) (subst (λ (s : Slot). IsShaped c.args.level s) (sym table) c.requires.shaped) c.loop-index.index (omega arith)),
            λ target.
                let one = ap (λ (s : Slot). tables_at target (c.args.level - 1) s) read in
                let part = sum_below-part 512 (λ k. tables_at target (c.args.level - 1) (slice_index_or c.in-Table.slots.value k Empty)) c.loop-index.index (omega arith) in
                let whole = ap (λ (s : Slot). tables_at target c.args.level s) (sym table) ∙ tables_at-Table target c.args.level c.in-Table.slots (omega arith) in
                let before = c.loop-index.invariant.present target in
                let all = c.requires.counted target in
                omega (arith, one, part, whole, before, all),
          ),
        ),
      ),
    )

pub lower-requires-clause-some : goal.lower-requires-clause-some
lower-requires-clause-some t c =
    let table : Table c.in-Table.slots ≡ c.args.slot.now = sym c.in-Table.is ∙ c.replace.ensures.value in
    let whole = ap (λ (s : Slot). tables_at (c.args.level - 1) c.args.level s) (sym table) ∙ tables_at-Table (c.args.level - 1) c.args.level c.in-Table.slots (omega arith) in
    let here = one_if-here (c.args.level - 1) in
    let end : c.loop-index.index ≡ 512 = omega arith in
    let sums = ap (λ (n : ℕ). sum_below n (λ k. tables_at (c.args.level - 1) (c.args.level - 1) (slice_index_or c.in-Table.slots.value k Empty))) end in
    let before = c.loop-index.invariant.present (c.args.level - 1) in
    let all = c.requires.counted (c.args.level - 1) in
    omega (arith, whole, here, sums, before, all)

pub returns-after-loop-index-clause-counted : goal.returns-after-loop-index-clause-counted
returns-after-loop-index-clause-counted t c = λ target.
    let table : Table c.in-Table.slots ≡ c.args.slot.now = sym c.in-Table.is ∙ c.replace.ensures.value in
    let whole = ap (λ (s : Slot). tables_at target c.args.level s) (sym table) ∙ tables_at-Table target c.args.level c.in-Table.slots (omega arith) in
    let end : c.loop-index.index ≡ 512 = omega arith in
    let sums = ap (λ (n : ℕ). sum_below n (λ k. tables_at target (c.args.level - 1) (slice_index_or c.in-Table.slots.value k Empty))) end in
    let before = c.loop-index.invariant.present target in
    let last = c.lower.ensures target in
    omega (arith, whole, sums, before, last)

-- a table above those of pages is put to those of slots
pub returns-after-loop-index-clause-put : goal.returns-after-loop-index-clause-put
returns-after-loop-index-clause-put t c =
    let table : Table c.in-Table.slots ≡ c.args.slot.now = sym c.in-Table.is ∙ c.replace.ensures.value in
    let end : c.loop-index.index ≡ 512 = omega arith in
    let whole = λ (kind : Kind). ap (λ (s : Slot). tables_in kind c.args.level s) (sym table) ∙ tables_in-Table kind c.args.level c.in-Table.slots (omega arith) in
    let sums = λ (kind : Kind). ap (λ (n : ℕ). sum_below n (λ k. tables_in kind (c.args.level - 1) (slice_index_or c.in-Table.slots.value k Empty))) end in
    let one = λ (kind : Kind). one_of-high kind (c.args.level - 1) (omega arith) in
    let inv = c.loop-index.invariant.put in
    λ kind. omega (arith, whole kind, sums kind, one kind, inv kind, c.put_slots.ensures kind)

pub returns-in-Empty : goal.returns-in-Empty
returns-in-Empty t c =
    let other : is_table c.args.slot.now ≡ false = ap is_table (sym c.replace.ensures.value) ∙ no-table _ c.in-Empty.is in
    let none = λ (kind : Kind). tables_in-other kind c.args.level c.args.slot.now other in
    record {
      emptied = c.replace.ensures.after;
      put = λ kind. omega (arith, none kind);
      counted = λ target. let low = tables_at-other target c.args.level c.args.slot.now other in omega (arith, low);
    }

pub unreachable-requires : goal.unreachable-requires
unreachable-requires t c =
    let table : Pages c.in-Pages.field-0 ≡ c.args.slot.now = sym c.in-Pages.is ∙ c.replace.ensures.value in
    let low = pages-level c.args.level c.in-Pages.field-0 c.requires.some (subst (λ (s : Slot). IsShaped c.args.level s) (sym table) c.requires.shaped) in
    absurd (c.if-level-eq1.false low)
