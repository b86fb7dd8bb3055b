use Rattle.std.proofs.Common.{◌≡◌, sym, ap, ◌∙◌, inl, inr, List, length, slice_index_or, arith, rules}
use Rattle.std.proofs.lemmas.List.{get_or_default}
use Rattle.gv_table.specs.declared.slot.Slot.{Slot}
use Rattle.gv_table.specs.declared.slot.Slot.TheVariants.{Empty}
use Rattle.gv_table.specs.Tree.{child, is_table}
use Rattle.gv_table.proofs.Slots.{no-table, is_table-Empty, page-other, child-Table, child-Pages, child-other}
use Rattle.gv_table.proofs.needed_tables.child_of.Goals as goal

pub returns-in-Table : goal.returns-in-Table
returns-in-Table c =
    let long : length c.deref.result.now ≡ 512 = search rules in
    inl (ap (λ (s : Slot). child s c.args.index) c.in-Table.is ∙ child-Table c.in-Table.slots c.args.index ∙
    sym (get_or_default c.deref.result.now c.args.index c.index-deref-index.result Empty (omega (arith, long, c.requires.within)) ∙
    ap (λ (l : List Slot). slice_index_or l c.args.index Empty) c.deref.ensures))

pub returns-in-Pages : goal.returns-in-Pages
returns-in-Pages c =
    inr (ap (λ (s : Slot). is_table (child s c.args.index)) c.in-Pages.is ∙ ap is_table (child-Pages c.in-Pages.field-0 c.args.index) ∙ page-other _, ap is_table c.requires.empty ∙ is_table-Empty)

pub returns-in-Empty : goal.returns-in-Empty
returns-in-Empty c = inl (child-other c.args.slot.now c.args.index (no-table c.args.slot.now c.in-Empty.is) ∙ sym c.requires.empty)

pub returns-in-Empty-2 : goal.returns-in-Empty-2
returns-in-Empty-2 c = inl (child-other c.args.slot.now c.args.index (no-table c.args.slot.now c.in-Empty.is) ∙ sym c.requires.empty)

pub returns-in-Empty-3 : goal.returns-in-Empty-3
returns-in-Empty-3 c = inl (child-other c.args.slot.now c.args.index (no-table c.args.slot.now c.in-Empty.is) ∙ sym c.requires.empty)
