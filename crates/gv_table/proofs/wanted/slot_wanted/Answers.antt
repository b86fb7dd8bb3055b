use Rattle.std.proofs.Common.{arith, sym, Some}
use Rattle.gv_table.specs.Levels.{slot_pages}
use Rattle.gv_table.specs.Reads.{IsReadBy}
use Rattle.gv_table.proofs.RangesMeet.{lies-from, lies-not-low, lies-not-high}
use Rattle.gv_table.proofs.Wants.{wanted-nothing, wanted-leaf, wanted-table, wanted-high}
use Rattle.gv_table.proofs.wanted.slot_wanted.Goals as goal
use Rattle.gv_table.proofs.wanted.slot_wanted.Goals.{else-level-le-GREATEST_LEAF_LEVEL-via-then-level-le-GREATEST_LEAF_LEVEL+then-first+else-end, else-level-le-GREATEST_LEAF_LEVEL-via-then-level-le-GREATEST_LEAF_LEVEL+else-first, else-level-le-GREATEST_LEAF_LEVEL-via-else-level-le-GREATEST_LEAF_LEVEL}

pub returns-in_default : goal.returns-in_default
returns-in_default c = sym (wanted-nothing _ c.args.slot_at.level c.args.slot_at.first c.in_default.ensures)

pub returns-then-end : goal.returns-then-end
returns-then-end c =
    let read : IsReadBy c.args.excerpt.now.mappings.now (slot_pages c.args.slot_at.level c.args.slot_at.first) (Some c.in-Some.m) = c.in-Some.ensures in
    let whole = lies-from (slot_pages c.args.slot_at.level c.args.slot_at.first) c.in-Some.m.range
    (omega (arith, c.first.ensures, c.if-first.true)) (omega (arith, c.pages_of.ensures, c.end.ensures, c.if-end.true)) in
    rw c.part.ensures (sym (wanted-leaf _ c.args.slot_at.level c.args.slot_at.first c.in-Some.m read (omega arith) whole))

pub returns-else-level-le-GREATEST_LEAF_LEVEL : goal.returns-else-level-le-GREATEST_LEAF_LEVEL
returns-else-level-le-GREATEST_LEAF_LEVEL c =
    let read : IsReadBy c.args.excerpt.now.mappings.now (slot_pages c.args.slot_at.level c.args.slot_at.first) (Some c.in-Some.m) = c.in-Some.ensures in
    elim c.else-level-le-GREATEST_LEAF_LEVEL.branch [
      | else-level-le-GREATEST_LEAF_LEVEL-via-then-level-le-GREATEST_LEAF_LEVEL+then-first+else-end w ↦
          sym (wanted-table _ c.args.slot_at.level c.args.slot_at.first c.in-Some.m read (lies-not-high (slot_pages c.args.slot_at.level c.args.slot_at.first) c.in-Some.m.range (omega (arith, c.pages_of.ensures, w.end.ensures, w.if-end.false))))
      | else-level-le-GREATEST_LEAF_LEVEL-via-then-level-le-GREATEST_LEAF_LEVEL+else-first w ↦
          sym (wanted-table _ c.args.slot_at.level c.args.slot_at.first c.in-Some.m read (lies-not-low (slot_pages c.args.slot_at.level c.args.slot_at.first) c.in-Some.m.range (omega (arith, w.first.ensures, w.if-first.false))))
      | else-level-le-GREATEST_LEAF_LEVEL-via-else-level-le-GREATEST_LEAF_LEVEL w ↦
          sym (wanted-high _ c.args.slot_at.level c.args.slot_at.first read.0 (omega (arith, w.if-level-le-GREATEST_LEAF_LEVEL.false)))
    ]
