use Rattle.std.proofs.Common.{arith, subst, ◌≡◌, ◌⊎◌, ◌<◌, ◌≤◌, inl, inr, ◌∙◌, sym, ap, ℕ, List, false, slice_index_or}
use Rattle.gv_table.specs.Kinds.{Kind}
use Rattle.gv_table.specs.declared.slot.Slot.{Slot}
use Rattle.gv_table.specs.BufferNames.{PageSlot}
use Rattle.gv_table.specs.declared.slot.Slot.TheVariants.{Pages, Table}
use Rattle.gv_table.specs.Shape.{IsShaped}
use Rattle.gv_table.specs.Tree.{is_table, child, slot_of, no_page}
use Rattle.gv_table.specs.Counts.{tables_in, tables_at}
use Rattle.gv_table.proofs.TablesInSlots.{tables_in-other, tables_in-pages, tables_at-other, tables_at-pages, one_if-here}
use Rattle.gv_table.proofs.Slots.{no-table, child-Pages, empty-page}
use Rattle.gv_table.proofs.Shapes.{table-level}
use Rattle.gv_table.proofs.release.release_part.Goals as goal

side-of : (k low high : ℕ) → ((k < low) ⊎ (high ≤ k)) ⊎ ((low ≤ k) × (k < high))
side-of k low high = grind arith

pub put_pages-requires : goal.put_pages-requires
put_pages-requires c =
    let table : Pages c.in-Pages.table ≡ c.args.slot.now = sym c.in-Pages.is ∙ c.replace.ensures.value in
    λ k below.
    let read = ap (λ (v : List PageSlot × Slot). slice_index_or v.0 k no_page) c.deref_mut.ensures.value in
    let held : child c.args.slot.now k ≡ slot_of (slice_index_or c.in-Pages.table.value.0 k no_page) =
    ap (λ (s : Slot). child s k) (sym table) ∙ child-Pages c.in-Pages.table k in
    elim (side-of k c.args.low c.args.high) [
      | inl rest ↦ (
          let stays : slice_index_or c.empty.new.slots k no_page ≡ slice_index_or c.deref_mut.result.now.0 k no_page =
          elim rest [
            | inl before ↦ c.empty.ensures.before k before
            | inr behind ↦ c.empty.ensures.behind k behind
          ] in
          stays ∙ read ∙ empty-page _ (sym held ∙ c.requires.rest k below rest)
          )
      | inr here ↦ c.empty.ensures.emptied k here.0 here.1
    ]

pub lower-requires-clause-some : goal.lower-requires-clause-some
lower-requires-clause-some c =
    let table : Pages c.in-Pages.table ≡ c.args.slot.now = sym c.in-Pages.is ∙ c.replace.ensures.value in
    let one = ap (λ (s : Slot). tables_at 0 1 s) (sym table) ∙ tables_at-pages 0 c.in-Pages.table in
    let here = one_if-here 0 in
    let all = c.requires.counted 0 in
    omega (arith, one, here, all)

pub returns-in-Pages-clause-put : goal.returns-in-Pages-clause-put
returns-in-Pages-clause-put c =
    let table : Pages c.in-Pages.table ≡ c.args.slot.now = sym c.in-Pages.is ∙ c.replace.ensures.value in
    let one = λ (kind : Kind). ap (λ (s : Slot). tables_in kind 1 s) (sym table) ∙ tables_in-pages kind c.in-Pages.table in
    λ kind. omega (arith, one kind, c.put_pages.ensures kind)

pub returns-in-Pages-clause-counted : goal.returns-in-Pages-clause-counted
returns-in-Pages-clause-counted c = λ target.
    let table : Pages c.in-Pages.table ≡ c.args.slot.now = sym c.in-Pages.is ∙ c.replace.ensures.value in
    let one = ap (λ (s : Slot). tables_at target 1 s) (sym table) ∙ tables_at-pages target c.in-Pages.table in
    let last = c.lower.ensures target in
    omega (arith, one, last)

pub returns-in-Empty : goal.returns-in-Empty
returns-in-Empty c =
    let other : is_table c.args.slot.now ≡ false = ap is_table (sym c.replace.ensures.value) ∙ no-table _ c.in-Empty.is in
    let none = λ (kind : Kind). tables_in-other kind 1 c.args.slot.now other in
    record {
      emptied = c.replace.ensures.after;
      put = λ kind. omega (arith, none kind);
      counted = λ target. let low = tables_at-other target 1 c.args.slot.now other in omega (arith, low);
    }

pub unreachable-requires : goal.unreachable-requires
unreachable-requires c =
    let table : Table c.in-Table.field-0 ≡ c.args.slot.now = sym c.in-Table.is ∙ c.replace.ensures.value in
    let high = table-level 1 c.in-Table.field-0 (omega arith) (subst (λ (s : Slot). IsShaped 1 s) (sym table) c.requires.shaped) in
    omega (arith, high)
