use Rattle.std.proofs.Common.{◌≡◌, ◌≤◌, ◌-◌, ◌+◌, List, take, drop, length, refl, sym, ◌∙◌, ap, subst, arith}
use Rattle.std.specs.List.{All}
use Rattle.std.proofs.lemmas.List.{length-take-le, length-drop, drop-drop}
use Rattle.std.proofs.lemmas.List.Elements.{All-append}
use Rattle.gv_journal.specs.ItemStore.{ItemStoreState, IsSpent}
use Rattle.gv_journal.specs.declared.item.Item.{Item}
use Rattle.gv_journal.proofs.ColumnsMatchItems.{same_reaches, reaches_passed}
use Rattle.gv_journal.proofs.ItemStores.{settled_items, items_written}
use Rattle.gv_journal.proofs.item_store.ItemStore.settle.Goals as goal

few : (c : goal.After-self-2-1) → c.args.count ≤ length (drop c.self.inside.spent c.self.inside.items.items)
few c = subst (λ (s : ItemStoreState). c.args.count ≤ length s.items) (sym c.self.view_is) c.requires.few

within : (c : goal.After-self-2-1) → c.self.inside.spent ≤ length c.self.inside.items.items
within c = omega (arith, c.self.inside.items.ok.0, c.self.invariant.within)

filled : (c : goal.After-self-2-1) → length c.release_items.new.items ≡ c.args.count
filled c =
    c.release_items.auto.items
    ∙ ap (λ (xs : List Item). length xs) (settled_items c.self.inside.items.items c.deref_mut.result.now c.self.inside.spent c.args.count c.deref_mut.ensures.value)
    ∙ length-take-le c.args.count (drop c.self.inside.spent c.self.inside.items.items) (few c)

pub invariant_of-self : goal.invariant_of-self
invariant_of-self c =
    let spent = c.self.inside.spent in
    let all = c.self.inside.items.items in
    let count = c.args.count in
    let same : spent + count - spent ≡ count = omega arith in
    let parts = items_written spent count c.self.inside.items.len (spent + count - spent) all c.deref_mut.result.now c.release_items.new.items
    c.deref_mut.ensures.value (sym c.self.inside.items.ok.0) (few c) (within c) same (filled c) in
    record {
      within = omega (arith, few c, length-drop spent all, c.self.inside.items.ok.0, c.self.invariant.within);
      beside = c.self.invariant.beside;
      reaches = same_reaches (reaches_passed spent c.self.inside.columns.firsts c.self.inside.columns.pasts c.self.inside.columns.regions all c.self.invariant.reaches count)
          refl refl refl (parts.0 ∙ drop-drop count spent all);
      spent_items = subst (λ (xs : List Item). All IsSpent xs) (sym parts.1) (All-append IsSpent (take spent all) c.release_items.new.items c.self.invariant.spent_items c.release_items.ensures.spent);
    }

pub returns-clause-items : goal.returns-clause-items
returns-clause-items c =
    let spent = c.self.inside.spent in
    let all = c.self.inside.items.items in
    let count = c.args.count in
    let same : spent + count - spent ≡ count = omega arith in
    (items_written spent count c.self.inside.items.len (spent + count - spent) all c.deref_mut.result.now c.release_items.new.items
    c.deref_mut.ensures.value (sym c.self.inside.items.ok.0) (few c) (within c) same (filled c)).0
    ∙ ap (λ (s : ItemStoreState). drop count s.items) c.self.view_is
