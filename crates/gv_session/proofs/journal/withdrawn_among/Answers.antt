use Rattle.std.proofs.Common.{◌≡◌, ◌∙◌, ◌+◌, ◌||◌, Bool, List, false, length, replicate, get_or, take, ap, sym, arith, rules}
use Rattle.std.specs.List.{list_any}
use Rattle.std.proofs.lemmas.List.{length-replicate}
use Rattle.gv_journal.specs.Items.{names}
use Rattle.gv_journal.specs.declared.item.Item.{Item}
use Rattle.gv_session.proofs.JournalLines.{any_more, unmarked, take_all}
use Rattle.gv_session.proofs.journal.withdrawn_among.Goals as goal

pub loop-item-init : goal.loop-item-init
loop-item-init c =
    let e : c.in_ok-marks.marks.items ≡ replicate (length c.args.items.now) false = search rules in
    record {
      len = ap (λ (bs : List Bool). length bs) e ∙ length-replicate (length c.args.items.now) false;
      marked = λ k below. ap (λ (bs : List Bool). get_or bs k false) e ∙ unmarked (length c.args.items.now) k;
    }

pub loop-item-preserved : goal.loop-item-preserved
loop-item-preserved c = record {
  len = c.mark.ensures.len ∙ c.loop-item.invariant.len;
  marked = λ k below.
      let here : Item = c.item-item.result in
      let old : Bool = list_any (λ (i : Item). names i.kind (c.args.first + k)) (take c.loop-item.item-index c.args.items.now) in
      let looked : names here.kind (c.args.first + k) ≡ names (get_or c.args.items.now c.loop-item.item-index here).kind (c.args.first + k) =
      ap (λ (i : Item). names i.kind (c.args.first + k)) c.item-item.is in
      let told : get_or c.mark.new.marks.items k false ≡ (get_or c.loop-item.marks.items k false || names here.kind (c.args.first + k)) =
      c.mark.ensures.marks k (omega (arith, c.loop-item.invariant.len)) in
      told ∙ ap (λ (b : Bool). b || names here.kind (c.args.first + k)) (c.loop-item.invariant.marked k below)
      ∙ ap (λ (b : Bool). old || b) looked
      ∙ sym (any_more (λ i. names i.kind (c.args.first + k)) c.args.items.now c.loop-item.item-index here c.loop-item-test.true);
}

pub returns-clause-marks : goal.returns-clause-marks
returns-clause-marks c = λ k below.
    c.loop-item.invariant.marked k below
    ∙ ap (list_any (λ i. names i.kind (c.args.first + k))) (take_all c.args.items.now c.loop-item.item-index (omega arith))
