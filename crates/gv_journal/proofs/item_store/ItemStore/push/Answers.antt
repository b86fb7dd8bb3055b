use Rattle.std.proofs.Common.{◌≡◌, ℕ, ◌≤◌, Option, None, List, [], ◌∷◌, ◌++◌, length, length-append, take, drop, sym, ◌∙◌, ap, subst, arith, rules}
use Rattle.std.specs.List.{All}
use Rattle.std.proofs.lemmas.List.{take-append-le}
use Rattle.gv_types.specs.declared.operation.PageOp.{PageOp}
use Rattle.gv_journal.specs.ItemStore.{IsSpent}
use Rattle.gv_journal.specs.Reach.{extent_of, regions_of, least_page, past_page}
use Rattle.gv_journal.specs.declared.item.Item.{Item}
use Rattle.gv_journal.proofs.ColumnsMatchItems.{same_reaches, reaches_pushed}
use Rattle.gv_journal.proofs.item_store.ItemStore.push.Goals as goal

pub invariant_of-self : goal.invariant_of-self
invariant_of-self c =
    let spent = c.self.inside.spent in
    let all = c.self.inside.items.items in
    let columns = c.self.inside.columns in
    let within : spent ≤ length all = search rules in
    let long : length columns.notes ≡ length all = search rules in
    let front : take spent (all ++ c.args.item ∷ []) ≡ take spent all = take-append-le spent all (c.args.item ∷ []) within in
    record {
      within = search rules;
      beside = omega (arith, ap (λ (xs : List (Option ℕ)). length xs) c.push.ensures.notes, length-append columns.notes (None ∷ []), c.push_reserved.ensures.len, c.self.invariant.beside);
      reaches = same_reaches
          (reaches_pushed spent columns.firsts columns.pasts columns.regions all c.self.invariant.reaches c.args.item c.of.result.first c.of.result.past c.of.result.regions
          (c.of.ensures.reach.first ∙ ap (λ (ops : List PageOp). least_page (extent_of ops)) c.done_by.ensures)
          (c.of.ensures.reach.past ∙ ap (λ (ops : List PageOp). past_page (extent_of ops)) c.done_by.ensures)
          (c.of.ensures.reach.regions ∙ ap (λ (ops : List PageOp). regions_of ops) c.done_by.ensures)
          (omega (arith, within, long, c.push.ensures.beside.firsts)) (omega (arith, within, long, c.push.ensures.beside.pasts)) (omega (arith, within, long, c.push.ensures.beside.regions)) within)
          (ap (λ (xs : List ℕ). drop spent xs) c.push.ensures.firsts) (ap (λ (xs : List ℕ). drop spent xs) c.push.ensures.pasts)
          (ap (λ (xs : List ℕ). drop spent xs) c.push.ensures.regions) (ap (λ (xs : List Item). drop spent xs) c.push_reserved.ensures.items);
      spent_items = subst (λ (xs : List Item). All IsSpent xs) (sym (ap (λ (xs : List Item). take spent xs) c.push_reserved.ensures.items ∙ front)) c.self.invariant.spent_items;
    }
