use Rattle.std.proofs.Common.{◌≡◌, ◌-◌, ◌%◌, ◌==◌, nat_lt, true, false, arith, refl, ap, ◌∙◌}
use Rattle.std.proofs.lemmas.Bool.Decides.{nat_tests}
use Rattle.gv_types.specs.declared.mapping.BufferId.{BufferId}
use Rattle.gv_table.specs.declared.slot.Slot.TheVariants.{Buffer}
use Rattle.gv_table.proofs.Slots.{leaf-Zero, leaf-Buffer}
use Rattle.gv_table.proofs.page_slot.entry_of.Goals as goal

pub returns-then-head-lt3 : goal.returns-then-head-lt3
returns-then-head-lt3 c =
    let low : nat_lt c.args.head 3 ≡ true = grind (arith, nat_tests, c.if-head-lt3.true) in
    leaf-Zero _ ∙ rw low refl

pub returns : goal.returns
returns c =
    let high : nat_lt c.args.head 3 ≡ false = grind (arith, nat_tests, c.if-head-lt3.false) in
    leaf-Buffer _ c.new.result c.args.page ∙
    ap (λ (id : BufferId). Buffer (record { read_only = (c.args.head - 3) % 2 == 1 }) id c.args.page) c.new.ensures ∙ rw high refl
