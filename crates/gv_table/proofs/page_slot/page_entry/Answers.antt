use Rattle.std.proofs.Common.{◌≡◌, ◌==◌, false, arith, refl, ap, sym, ◌∙◌}
use Rattle.std.proofs.lemmas.Bool.Decides.{nat_tests}
use Rattle.gv_table.specs.Tree.{slot_of}
use Rattle.gv_table.proofs.Slots.{slot_of-none}
use Rattle.gv_table.proofs.PageSlotDecoding.{encoded-parts}
use Rattle.gv_table.proofs.page_slot.page_entry.Goals as goal

pub returns-then-slot-eq-NO_PAGE : goal.returns-then-slot-eq-NO_PAGE
returns-then-slot-eq-NO_PAGE c = ap slot_of c.if-slot-eq-NO_PAGE.true ∙ slot_of-none

pub returns : goal.returns
returns c =
    let other : (c.args.slot == 0) ≡ false = grind (arith, nat_tests, c.if-slot-eq-NO_PAGE.false) in
    encoded-parts c.args.slot _ _ other refl refl ∙ sym c.entry_of.ensures
