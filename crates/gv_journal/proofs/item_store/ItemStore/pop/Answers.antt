use Rattle.std.proofs.Common.{◌≡◌, ℕ, ◌-◌, ◌≤◌, List, [], ◌∷◌, subst, length, take, drop, refl, sym, ap, ◌∙◌, arith, rules}
use Rattle.gv_journal.specs.ItemStore.{ItemStoreState, IsSpent}
use Rattle.gv_journal.specs.declared.item.Item.{Item}
use Rattle.std.specs.List.{All}
use Rattle.std.proofs.lemmas.List.{take-append-le, take_at}
use Rattle.gv_journal.specs.Reach.{AreReaches}
use Rattle.gv_journal.proofs.ColumnsMatchItems.{same_reaches, reaches_cut}
use Rattle.gv_journal.proofs.ItemStores.{notes_left}
use Rattle.gv_journal.proofs.item_store.ItemStore.pop.Goals as goal

pub returns-clause-notes : goal.returns-clause-notes
returns-clause-notes c =
    let size : c.len-2.result - 1 ≡ length c.take_last.new.self.items = search rules in
    let within : c.self.inside.spent ≤ length c.take_last.new.self.items = search rules in
    notes_left c.self.inside.spent c.take_last.new.self.items c.self.inside.columns.notes c.args.self.now.notes c.truncate.new.self.notes
    (ap (λ (s : ItemStoreState). s.notes) c.self.view_is) (c.truncate.ensures.notes ∙ ap (λ (n : ℕ). take n c.self.inside.columns.notes) size) within

pub invariant_of-self : goal.invariant_of-self
invariant_of-self c =
    let spent = c.self.inside.spent in
    let within : spent ≤ length c.take_last.new.self.items = search rules in
    let front : take spent c.self.inside.items.items ≡ take spent c.take_last.new.self.items =
    ap (λ (xs : List Item). take spent xs) c.take_last.ensures.items ∙ take-append-le spent c.take_last.new.self.items (c.take_last.result ∷ []) within in
    let size : c.len-2.result - 1 ≡ length c.take_last.new.self.items = search rules in
    let fewer : take (c.len-2.result - 1) c.self.inside.items.items ≡ c.take_last.new.self.items =
    ap (λ (n : ℕ). take n c.self.inside.items.items) size ∙ ap (λ (xs : List Item). take (length c.take_last.new.self.items) xs) c.take_last.ensures.items
    ∙ take_at c.take_last.new.self.items (c.take_last.result ∷ []) (length c.take_last.new.self.items) refl in
    let cut : AreReaches (drop spent (take (c.len-2.result - 1) c.self.inside.columns.firsts)) (drop spent (take (c.len-2.result - 1) c.self.inside.columns.pasts))
    (drop spent (take (c.len-2.result - 1) c.self.inside.columns.regions)) (drop spent (take (c.len-2.result - 1) c.self.inside.items.items)) =
    reaches_cut spent c.self.inside.columns.firsts c.self.inside.columns.pasts c.self.inside.columns.regions c.self.inside.items.items c.self.invariant.reaches (c.len-2.result - 1) (omega (arith, size, within)) in
    record {
      within = search rules;
      beside = search rules;
      reaches = same_reaches cut (ap (λ (xs : List ℕ). drop spent xs) c.truncate.ensures.firsts) (ap (λ (xs : List ℕ). drop spent xs) c.truncate.ensures.pasts)
          (ap (λ (xs : List ℕ). drop spent xs) c.truncate.ensures.regions) (ap (λ (xs : List Item). drop spent xs) (sym fewer));
      spent_items = subst (λ (xs : List Item). All IsSpent xs) front c.self.invariant.spent_items;
    }
